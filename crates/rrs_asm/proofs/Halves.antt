-- A word as the sum of a multiple of 4096 and an immediate of 12 bits.
use Rattle.std.proofs.Common.{ℕ, ◌^◌, ◌<◌, arith}
use Rattle.std.proofs.lemmas.Int.{ints}
use Rattle.std.proofs.lemmas.Bool.Decides.{nat_tests}
use Rattle.rrs_asm.specs.Pseudo.{lower, upper, AreHalves}

pub halves : (v : ℕ) → v < 2 ^ 32 → AreHalves v (upper v) (lower v)
halves v fits = record {
  multiple = grind (arith, nat_tests, ints);
  least = grind (arith, nat_tests, ints);
  most = grind (arith, nat_tests, ints);
  whole = grind (arith, nat_tests, ints);
}
