use Rattle.std.proofs.Common.{◌≡◌, ℕ, ◌+◌, ◌-◌, ◌<◌, ◌⊎◌, inl, inr, List, length, slice_index, ◌∙◌, ap, subst, arith}
use Rattle.rrs_elf.specs.SymbolTables.{sh_size, sh_link, symbol_count, st_name, name_start, strings_end, IsText, IsName}
use Rattle.rrs_elf.proofs.SymbolsAccepted.{SymbolsHold, symbols_hold}
use Rattle.rrs_elf.proofs.symbol_table.Symbols.name.Goals as goal

-- a text that begins before the end of its strings ends before it too, since their last byte is 0
name_of : (file : List ℕ) (t n : ℕ) (text : List ℕ) → SymbolsHold file t → n < symbol_count file t
    → IsText file (name_start file t n) (strings_end file t) text → IsName file (name_start file t n) (strings_end file t) text
name_of file t n text hold below is = record { text = is; inside = inside }
  where
    start : ℕ
    start = name_start file t n

    stop : ℕ
    stop = strings_end file t

    some : st_name file t n < sh_size file (sh_link file t)
    some = hold.names n below

    inside : name_start file t n + length text < strings_end file t
    inside =
        let within = is.within in
        let either : (name_start file t n + length text < strings_end file t) ⊎ (name_start file t n + length text ≡ strings_end file t) = grind arith in
        elim either [
          | inl less ↦ less
          | inr same ↦
              let k : ℕ = strings_end file t - 1 - name_start file t n in
              let here : name_start file t n + k ≡ strings_end file t - 1 = omega (arith, same, some) in
              let none = is.no_zero k (omega (arith, same, some)) in
              absurd (none (ap (slice_index file) here ∙ hold.last_zero (omega (arith, some))))
        ]

pub returns-clause-value : goal.returns-clause-value
returns-clause-value c =
    let file = c.args.self.now.file.now in
    let t = c.args.self.now.table in
    let n = c.args.index in
    let place = c.place_of_name-from.ensures in
    let text : IsText file (name_start file t n) (strings_end file t) c.text_at.result.now = subst (λ m. IsText file (name_start file t n) m c.text_at.result.now) place.end (subst (λ m. IsText file m c.place_of_name-from.result.1 c.text_at.result.now) place.start c.text_at.ensures) in
    name_of file t n c.text_at.result.now (symbols_hold file t c.args.self.now.accepted) (omega (arith, c.count.ensures)) text
