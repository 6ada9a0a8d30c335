-- Pieces of text that are written one after the other.
use Rattle.std.proofs.Common.{◌≡◌, ℕ, List, [], ◌++◌, ◌∙◌, refl, sym, subst, Option, Result, Ok, Err, rules, IsOk, OnOk}
use Rattle.std.specs.Io.KnownBytes.{Appends}
use Rattle.std.proofs.KnownBytes.{Appends-nil, Appends-trans}
use Rattle.rrs_reports.specs.declared.pieces.Pieces.{Pieces}
use Rattle.rrs_reports.specs.Profiles.{Writes, WritesSome, profile_head}

pub on_ok : {T E P : Type 0} (r : Result T E) → (IsOk r → P) → OnOk r P
on_ok (Ok x) holds = holds (search (rules))
on_ok (Err e) holds = tt

module _ {W : Type 0} (contents : W → Option (List ℕ)) where
  pub both : (a b c : Pieces W) (x y : List ℕ) → Writes contents a x b → Writes contents b y c → Writes contents a (x ++ y) c
  both a b c x y first rest = record {
    same_out = rest.same_out ∙ first.same_out;
    had_not_failed = λ is. first.had_not_failed (rest.had_not_failed is);
    written = λ is. Appends-trans (contents a.out.now) (contents b.out.now) (contents c.out.now) x y
        (first.written (rest.had_not_failed is)) (rest.written is);
  }

  pub three : (a b c d : Pieces W) (x y z : List ℕ) → Writes contents a x b → Writes contents b y c
      → Writes contents c z d → Writes contents a (x ++ (y ++ z)) d
  three a b c d x y z first second third = both a b d x (y ++ z) first (both b c d y z second third)

  pub some_of : (a b : Pieces W) (x : List ℕ) → Writes contents a x b → WritesSome contents a b
  some_of a b x w = (x, w)

  pub some_none : (a : Pieces W) → WritesSome contents a a
  some_none a = ([], record { same_out = refl; had_not_failed = λ is. is; written = λ _. Appends-nil (contents a.out.now) })

  pub some_both : (a b c : Pieces W) → WritesSome contents a b → WritesSome contents b c → WritesSome contents a c
  some_both a b c first rest = (first.0 ++ rest.0, both a b c first.0 rest.0 first.1 rest.1)

  -- to the end, where what is written to is held again
  pub begun : (a mid new : Pieces W) (final : W) (path bytes : List ℕ) → bytes ≡ path
      → Writes contents a (profile_head bytes) mid → WritesSome contents mid new → final ≡ new.out.now
      → OnOk new.written ((costs : List ℕ) × Appends (contents a.out.now) (contents final) (profile_head path ++ costs))
  begun a mid new final path bytes same head costs last =
      let before = contents a.out.now in
      let after = contents new.out.now in
      let all = both a mid new (profile_head bytes) costs.0 head costs.1 in
      on_ok new.written (λ is. (
        costs.0,
        subst (λ w. Appends before (contents w) (profile_head path ++ costs.0)) (sym last)
            (subst (λ p. Appends before after (profile_head p ++ costs.0)) same (all.written is)),
      ))
