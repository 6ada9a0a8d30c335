-- One address more is there, and one less is left.
use Rattle.std.proofs.Common.{◌≡◌, ◌+◌, ◌∷◌, length, map, drop, ap, ◌∙◌, arith}
use Rattle.std.specs.String.{string_bytes}
use Rattle.rrs_exec.specs.InitialStack.{strings}
use Rattle.rrs_exec.proofs.StackWords.{cut_at, address_pushed, string_counted}
use Rattle.rrs_exec.proofs.stack.push_addresses.Goals as goal

cut : (c : goal.After-len) → map string_bytes (drop c.loop-text.text-index c.args.texts.now)
    ≡ string_bytes c.text-item.result
    ∷ map string_bytes (drop (c.loop-text.text-index + 1) c.args.texts.now)
cut c = ap (map string_bytes)
    (cut_at _ c.loop-text.text-index c.text-item.result c.loop-text-test.true c.text-item.is)

long : (c : goal.After-len) → c.len.result ≡ length (string_bytes c.text-item.result)
long c = c.len.ensures ∙ c.text-item.result.bytes.ok.0

counted : (c : goal.After-len) → c.loop-text.address + (c.len.result + 1)
    + length (strings (map string_bytes (drop (c.loop-text.text-index + 1) c.args.texts.now)))
    ≡ c.args.start + length (strings (map string_bytes c.args.texts.now))
counted c = string_counted _ _ _ (cut c) _ _ _ (long c) c.loop-text.invariant.within

pub loop-text-preserved : goal.loop-text-preserved
loop-text-preserved c = record {
  pushed = address_pushed _ _ _ (cut c) _ _ _ _ _ (long c) c.loop-text.invariant.pushed
      c.in_ok-push_word.ensures;
  within = counted c;
}

pub overflow_cast-address : goal.overflow_cast-address
overflow_cast-address c = omega (arith, counted c, c.requires)

pub overflow_add-address : goal.overflow_add-address
overflow_add-address c = omega (arith, counted c, c.requires)

pub overflow_add-address-in-loop-text : goal.overflow_add-address-in-loop-text
overflow_add-address-in-loop-text c = omega (arith, counted c, c.requires)
