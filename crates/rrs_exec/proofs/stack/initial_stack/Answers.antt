-- The parts are appended one after another.
use Rattle.std.proofs.Common.{length, map, replicate, refl}
use Rattle.std.proofs.lemmas.List.{length-map}
use Rattle.std.specs.String.{string_bytes}
use Rattle.rrs_exec.specs.InitialStack.{strings, addresses, auxiliary_vector, arguments_at, random_at, variables_at}
use Rattle.rrs_exec.proofs.StackWords.{put_together}
use Rattle.rrs_exec.proofs.stack.initial_stack.Goals as goal

pub returns : goal.returns
returns c =
    let arguments = map string_bytes c.args.arguments.now in
    let variables = map string_bytes c.args.variables.now in
    let sp = c.args.sp in
    let random = random_at sp arguments variables in
    let same = length-map c.args.arguments.now string_bytes in
    let also = length-map c.args.variables.now string_bytes in
    put_together (length arguments) (addresses (arguments_at sp arguments variables) arguments)
    (addresses (variables_at sp arguments variables) variables)
    (auxiliary_vector c.args.headers random) (replicate 16 0) (strings arguments) (strings variables) _
    (rw (
      c.in_ok-push_strings-2.ensures,
      c.in_ok-push_strings.ensures,
      c.in_ok-extend_from_slice.ensures.items,
      c.in_ok-push_words.ensures,
      c.auxiliary_vector.ensures,
      c.in_ok-push_addresses.ensures.pushed,
      c.in_ok-behind.ensures.behind,
      c.in_ok-behind.ensures.pushed,
      c.in_ok-push_word.ensures,
      c.new-block.ensures.items,
      same,
      also,
    ) refl)
