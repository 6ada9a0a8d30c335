-- What stands behind the letters is no list of extensions.
use Rattle.std.proofs.Common.{rules, ◌≡◌, ◌++◌, drop, codes, sym, ap, ◌∙◌}
use Rattle.rrs_run_commands.specs.Architectures.{all_named}
use Rattle.rrs_run_commands.proofs.ArchitectureNames.{behind_letters}
use Rattle.rrs_run_commands.proofs.architectures.march_of.Goals as goal

pub returns-in_default : goal.returns-in_default
returns-in_default c = λ profile is.
    let text = c.in_ok-rest.rest.now in
    let first = c.split_letter-atomics in
    let second = c.split_letter-compressed in
    let begins : c.args.word.now ≡ codes "rv32im" ++ text = search rules in
    let end : second.result.1.now ≡ all_named is.names =
    behind_letters first.result.0 is.atomics second.result.0 is.compressed is.names text first.result.1.now second.result.1.now
    (ap (drop 6) (sym begins ∙ is.whole)) first.ensures.is first.ensures.no second.ensures.is second.ensures.no in
    c.in_default.ensures is.names is.extensions end is.are
