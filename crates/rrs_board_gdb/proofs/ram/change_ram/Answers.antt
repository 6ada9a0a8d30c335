use Rattle.std.proofs.Common.{◌≡◌, ℕ, ◌+◌, ◌^◌, ◌<◌, ◌≤◌, false, length}
use Rattle.std.proofs.lemmas.Bool.{OnFalse_from, OnFalse_at}
use Rattle.rrs_board_gdb.specs.Shown.{is_writable_at}
use Rattle.rrs_board_gdb.proofs.ram.change_ram.Goals as goal

pub returns-clause-refused : goal.returns-clause-refused
returns-clause-refused c =
    let a = c.args.address in
    let n = length c.args.values.now in
    let P : Type 0 = 1 ≤ n → a + n ≤ 2 ^ 32
    → (i : ℕ) × (i < n) × (is_writable_at c.args.board.now (a + i) ≡ false) in
    OnFalse_from c.write_memory.result P (λ fails some within. OnFalse_at fails c.write_memory.ensures.refused within)
