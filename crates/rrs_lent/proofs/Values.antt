-- The machine value of a `Room`: what is owned tells it, and is made of nothing. And a pair is made of its two values. Assumes `Logic`.
use Rattle.std.proofs.Common.{◌≡◌, ℕ, ◌^◌, ◌<◌, List, [], ◌∷◌, ◌++◌, refl, ◌∙◌, w64}
use seplogic.Ra.Ura.{Ura}
use mir.Val.{Val, vint, vstruct, vcons, vnil, of_list}
use base.Logic.{ent, sep, emp}
use base.Fml.{Fml}
use types.Logic.{Logic, sem}
use types.Kit.{‵, ◌$◌, ◌∵◌, !, qed, move, fjoin, fpack, feq_i, done}
use denote.RattleType.{RattleType, Valss}
use denote.Builtin.{usize}
use denote.RawPtr.{Ptr, RawPtr, ptr_val}
use denote.Shadow.{shadow, makes_shadow}
use denote.Steps.{nothing}
use denote.Struct.Struct.{within}
use denote.Struct.Declared.{shape}
use denote.Struct.Tuple.{Tuple, tuple_type}
use Rattle.bumpalo.proofs.Values.{plainly}

abbrev pub room_val : Ptr → ℕ → Val
room_val p n = vstruct (vcons (ptr_val p) (vcons (vint w64 n) vnil))

abbrev pub fields_own : Ptr → ℕ → List Val → Fml
fields_own p n = (plainly (RawPtr ∷ usize ∷ [])).own_val (p, (n, tt))

pub room_told : (p : Ptr) (n : ℕ) (vs : List Val) → shadow (fields_own p n vs) → (vs ≡ room_val p n ∷ []) × (n < 2 ^ 64)
room_told p n vs s = (s.1.0 ∙ (λ i. vstruct (of_list (s.1.1.0 i ++ (s.1.1.1.0.0 i ++ []))) ∷ []), s.1.1.1.0.1)

pub room_made : {M : Type 1} {𝓤 : Ura M} (𝓛 : Logic 𝓤) (p : Ptr) (n : ℕ) → n < 2 ^ 64 → ent 𝓤 (emp 𝓤) (sem 𝓛 (fields_own p n (room_val p n ∷ [])))
room_made 𝓛 p n f = makes_shadow 𝓛 (fields_own p n (room_val p n ∷ [])) (λ _. (tt, (tt, ((tt, tt), tt)))) ((ptr_val p ∷ [], (vint w64 n ∷ [], tt)), (refl, (refl, ((refl, f), tt))))

abbrev pub pair_val : Val → Val → Val
pair_val u v = vstruct (vcons u (vcons v vnil))

pub pair_of : {M : Type 1} {𝓤 : Ura M} (𝓛 : Logic 𝓤) (R S : RattleType) (x : R.Denot) (y : S.Denot) (u v : Val)
    → ent 𝓤 (sep 𝓤 (sem 𝓛 (R.own_val x (u ∷ []))) (sem 𝓛 (S.own_val y (v ∷ [])))) (sem 𝓛 ((Tuple (R ∷ S ∷ [])).own_val (x, y) (pair_val u v ∷ [])))
pair_of 𝓛 R S x y u v =
    qed 𝓛 (‵ (R.own_val x (u ∷ [])) ∷ ‵ (S.own_val y (v ∷ [])) ∷ []) ∵ nothing ! $ move ! (2 ∷ 0 ∷ []) $ fjoin ! $ move ! (1 ∷ 0 ∷ []) $ fjoin ! $ feq_i ! (List Val) (pair_val u v ∷ []) (pair_val u v ∷ []) refl $ fjoin ! $
    fpack ! (Valss (R ∷ S ∷ [])) (within (shape (tuple_type (R ∷ S ∷ []))) (x, (y, tt)) (pair_val u v ∷ [])) (u ∷ [], (v ∷ [], tt)) $ done !
