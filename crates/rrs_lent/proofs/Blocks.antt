-- A room as room for a type, with the way back, and the two cases of what `take` gave. Assumes `Logic`.
use Rattle.std.proofs.Common.{◌≡◌, ℕ, zero, suc, ◌+◌, ◌-◌, ◌*◌, ◌/◌, ◌%◌, ◌^◌, ◌<◌, ◌≤◌, max, List, [], ◌∷◌, ◌++◌, IfSome, None, Some, refl, sym, ap, subst, ◌∙◌, arith}
use native.Mathlib.Nat.{mod_self, sub-zero}
use seplogic.Ra.Ura.{Ura}
use mir.Syntax.{Ty, Tys, Width, w8, w16, w32, w64, w128, tnil, tcons, ty_int, ty_array, ty_struct}
use mir.Val.{Val, vcons, vnil, of_list, bytes}
use base.Logic.{SProp, ent, sep, wand, id⊢, apply∗}
use base.Fml.{Fml, fwand, froom}
use prog.Memory.{size, align, pad, up, end_of, capped}
use prog.Model.{rooms_at}
use prog.Align.{Dv, dv→, dv_zero, dv_one, dv_mul, align_pos, align_w, align-bytes}
use prog.Capped.{capped_is, capped_small}
use types.Logic.{Logic, sem}
use types.Kit.{Item, Goal, Seq, ‵, raw, ◌⊛◌, ◌$◌, ◌∵◌, !, qed, by, move, drop, use1, use2, split, join, frame, assume, rewrite, fsplit, fpick, fpack, feq_l, done}
use types.Match.{live}
use denote.RattleType.{RattleType}
use denote.RawPtr.{Ptr, block_ptr, room_for, in_a_block}
use denote.Shadow.{pure_l}
use denote.Steps.{nothing, only}
use Rattle.std.specs.contracts.option.Option as option
use Rattle.rrs_lent.specs.Ownership.{Place, units, units_at, room_owns, block_token}
use Rattle.rrs_lent.specs.Heaps.{Grants}
use Rattle.rrs_lent.specs.contracts.room.Room as room
use Rattle.rrs_lent.proofs.Values.{room_val, fields_own, room_told}

flush : (a n : ℕ) → Dv a n → up a n ≡ n
flush a n d =
    let gone : pad a n ≡ 0 = ap (λ (r : ℕ). (a - r) % a) (dv→ a n d) ∙ ap (λ (r : ℕ). r % a) (sub-zero a) ∙ mod_self a in
    ap (λ (r : ℕ). n + r) gone ∙ omega arith

divides_16 : (w : Width) → Dv (bytes w) 16
divides_16 w8 = tt
divides_16 w16 = tt
divides_16 w32 = tt
divides_16 w64 = tt
divides_16 w128 = tt

suits : (τ : Ty) → Dv (align τ) 16
suits τ = subst (λ (k : ℕ). Dv k 16) (sym (align-bytes τ)) (divides_16 (align_w τ))

module _ {M : Type 1} {𝓤 : Ura M} (𝓛 : Logic 𝓤) where
  open 𝓛 use {H}

  abbrev Pr : Type 2
  Pr = SProp 𝓤

  abbrev ◌⊢◌ : Pr → Pr → Type 1
  P ⊢ Q = ent 𝓤 P Q

  abbrev ◌∗◌ : Pr → Pr → Pr
  P ∗ Q = sep 𝓤 P Q

  abbrev ◌-∗◌ : Pr → Pr → Pr
  P -∗ Q = wand 𝓤 P Q

  abbrev ⟦◌⟧ : Fml → Pr
  ⟦ P ⟧ = sem 𝓛 P

  infix 26 ◌⊢◌
  infixr 35 ◌∗◌
  infixr 30 ◌-∗◌
  -- k units are room for a type of at most as many bytes, with the way back
  retypes : (τ : Ty) (k b x : ℕ) → size τ ≤ k * 16 → H.room (units k) b x ⊢ H.room τ b x ∗ (H.room τ b x -∗ H.room (units k) b x)
  retypes τ k b x fits =
      let tail : Tys = tcons (ty_array (ty_int w8) (k * 16 - size τ)) tnil in
      let ω : Ty = ty_struct [] (tcons τ tail) in
      let one : max (align τ) 1 ≡ align τ = omega (arith, align_pos τ) in
      let start : up (align τ) 0 ≡ 0 = flush (align τ) 0 (dv_zero (align τ)) in
      let ends : end_of zero (tcons τ tail) ≡ k * 16 = ap (λ (j : ℕ). j + (k * 16 - size τ) * 1) (flush 1 (up (align τ) 0 + size τ) (dv_one (up (align τ) 0 + size τ)) ∙ ap (λ (j : ℕ). j + size τ) start) ∙ omega arith in
      let same : size ω ≡ k * 16 = (λ i. up (one i) (ends i)) ∙ flush (align τ) (k * 16) (dv_mul (align τ) 16 k (suits τ)) in
      let first : x + up (align τ) 0 ≡ x = ap (λ (j : ℕ). x + j) start ∙ omega arith in
      let Rest : Pr = rooms_at 𝓤 H tail (up (align τ) 0 + size τ) b x in
      let Head : Pr = H.room τ b (x + up (align τ) 0) in
      let All : Pr = H.room (units k) b x in
      subst (λ (d : ℕ). All ⊢ H.room τ b d ∗ (H.room τ b d -∗ All)) first
      (qed 𝓛 (raw All ∷ []) ∵
      use1 𝓛 (raw (H.room ω b x) ⊛ raw (H.room ω b x -∗ All)) (𝓛.laws.room_as (units k) ω b x same (subst (λ (j : ℕ). Dv j 16) (sym one) (suits τ))) $ split ! $
      use1 𝓛 ((raw Head ⊛ raw Rest) ⊛ raw ((Head ∗ Rest) -∗ H.room ω b x)) (𝓛.laws.room_fields [] (tcons τ tail) b x) $ split ! $ split ! $ frame ! $ assume ! (raw Head) $ join ! $
      use2 𝓛 (raw (H.room ω b x)) (apply∗ 𝓤 (Head ∗ Rest) (H.room ω b x)) $ by ! (apply∗ 𝓤 (H.room ω b x) All))

  units_out : (k : ℕ) (p : Ptr) → 0 < k → ⟦ units_at k p ⟧ ⊢ ⟦ room_for (units k) p ⟧
  units_out zero p some = absurd (omega (arith, some))
  units_out (suc k) p some = id⊢ 𝓤 ⟦ room_for (units (suc k)) p ⟧

  pub units_kept : (k : ℕ) (p : Ptr) → ⟦ room_for (units k) p ⟧ ⊢ ⟦ units_at k p ⟧
  units_kept zero p = qed 𝓛 (‵ (room_for (units zero) p) ∷ []) ∵ drop ! $ nothing ! $ done !
  units_kept (suc k) p = id⊢ 𝓤 ⟦ room_for (units (suc k)) p ⟧

  pub hands_out : (r : Place) (τ : Ty) (b o n : ℕ) → block_ptr b o ≡ r.0 → capped (size τ) ≡ n → n ≤ r.1 / 16 * 16 → 0 < r.1 / 16 → n < 2 ^ 63
      → H.room (units (r.1 / 16)) b o ⊢ H.room τ b o ∗ ⟦ block_token r τ (block_ptr b o) ⟧
  hands_out r τ b o n lies sized fits some small =
      let p : Ptr = block_ptr b o in
      let k = r.1 / 16 in
      let same : n ≡ size τ = sym sized ∙ capped_is (size τ) (omega (arith, capped_small (size τ) (omega arith))) in
      let short : size τ ≤ k * 16 = subst (λ (j : ℕ). j ≤ k * 16) same fits in
      qed 𝓛 (‵ (froom (units k) b o) ∷ []) ∵
      use1 𝓛 (‵ (froom τ b o) ⊛ ‵ (fwand (froom τ b o) (froom (units k) b o))) (retypes τ k b o short) $ split ! $ frame ! $
      use1 𝓛 (‵ (fwand (froom τ b o) (room_owns r)))
      (qed 𝓛 (‵ (fwand (froom τ b o) (froom (units k) b o)) ∷ []) ∵ assume ! (‵ (froom τ b o)) $
      use2 𝓛 (‵ (froom (units k) b o)) (apply∗ 𝓤 (H.room τ b o) (H.room (units k) b o)) $
      by ! (subst (λ (u : Ptr). ⟦ room_for (units k) p ⟧ ⊢ ⟦ units_at k u ⟧) lies (units_kept k p))) $
      fpack ! (p ≡ r.0) (λ _. fwand (froom τ b o) (room_owns r)) lies $ done !

abbrev pub Taken : RattleType
Taken = option.the_row room.the_row

abbrev pub Told : Place → ℕ → ℕ → Taken.Denot → Type 0
Told r n a x = IfSome x (Grants r n a)

module _ {M : Type 1} {𝓤 : Ura M} {𝓛 : Logic 𝓤} {K : Type 0} {Γ : List (Item 𝓤)} {G : Goal 𝓤 𝓛.H} where
  pub taken : K → (r : Place) (n a : ℕ) (x : Taken.Denot) (v : Val) → Told r n a x
      → ((b o : ℕ) → block_ptr b o ≡ r.0 → n ≤ r.1 / 16 * 16 → 0 < r.1 / 16 → n < 2 ^ 63 → r.1 < 2 ^ 64 → v ≡ live 1 (vcons (room_val (block_ptr b o) r.1) vnil)
      → Seq K 𝓛 (‵ (froom (units (r.1 / 16)) b o) ∷ Γ) G) → (v ≡ live 0 vnil → Seq K 𝓛 Γ G) → Seq K 𝓛 (‵ (Taken.own_val x (v ∷ [])) ∷ Γ) G
  taken t r n a None v told some none =
      fpick t (λ us. fsplit t $ feq_l t (λ is. fpick t (λ vss. fsplit t $ feq_l t (λ is'. drop t $ none (ap only is ∙ ap (λ (ws : List Val). live 0 (of_list ws)) is')))))
  taken t r n a (Some w) v told some none =
      fpick t (λ us. fsplit t $ feq_l t (λ is. fpick t (λ vss. fsplit t $ feq_l t (λ is'. fsplit t $ move t (1 ∷ []) $ drop t $ fsplit t $ pure_l t (fields_own w.start w.size vss.0) (λ s.
      let parts = room_told w.start w.size vss.0 s in
      let k = r.1 / 16 in
      rewrite t 0 (λ (u : Place). ‵ (room_owns u)) told.0 refl $
      use1 𝓛 (‵ (room_for (units k) r.0)) (units_out 𝓛 k r.0 told.2) $ in_a_block t r.0 (λ p. room_for (units k) p) (id⊢ 𝓤 _) (λ b o e.
      some b o (sym e) told.1 told.2 told.3 (subst (λ (u : Place). u.1 < 2 ^ 64) told.0 parts.1)
      (ap only is ∙ ap (λ (xs : List Val). live 1 (of_list xs)) (is' ∙ ap (λ (xs : List Val). xs ++ []) parts.0) ∙ (λ i. live 1 (vcons (room_val (told.0 i).0 (told.0 i).1) vnil)) ∙ ap (λ (u : Ptr). live 1 (vcons (room_val u r.1) vnil)) e)))))))
