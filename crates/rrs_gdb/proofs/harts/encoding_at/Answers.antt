-- No word is at the pc.
use Rattle.std.proofs.Common.{refl, sym, ap, ◌∙◌, if◌then◌else◌, option_map}
use Rattle.rrs_lib.specs.Executor.{state_in}
use Rattle.rrs_lib.specs.Steps.{next_word}
use Rattle.rrs_hart.specs.declared.halves.Encoding.TheVariants.{Long}
use Rattle.rrs_hart.specs.Halves.{fetched}
use Rattle.rrs_gdb.specs.Harts.{if_fetched}
use Rattle.rrs_gdb.proofs.harts.encoding_at.Goals as goal

pub returns-in-Err-fetch_word-clause-found : goal.returns-in-Err-fetch_word-clause-found
returns-in-Err-fetch_word-clause-found g c =
    let s = state_in g.M.Memory.bytes g.M.Memory.writable c.args.executor.now in
    sym (ap (λ b. if b then if_fetched (fetched s.bytes s.pc) else option_map Long (next_word s)) c.if-profile.false
    ∙ ap (option_map Long) (c.in-Err-fetch_word.ensures.none s refl refl))
