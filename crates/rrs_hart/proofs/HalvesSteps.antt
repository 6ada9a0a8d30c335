-- Each state has one step of a hart that has the compressed instructions, and one list of accesses.
use Rattle.std.proofs.Common.{◌≡◌, ℕ, List, ◌++◌, Option, Result, Ok, Err, sym, subst, ap, ◌∙◌}
use Rattle.std.proofs.lemmas.Option.{same_Some}
use Rattle.rrs_instruction.specs.Encodings.{Fields}
use Rattle.rrs_instruction.specs.Table.{Row, table}
use Rattle.rrs_instruction.proofs.Rows.{one_row_at_most}
use Rattle.rrs_lib.specs.declared.instruction_executor.InstructionException.{InstructionException}
use Rattle.rrs_lib.specs.declared.instruction_executor.InstructionException.TheVariants.{IllegalInstruction}
use Rattle.rrs_lib.specs.Machine.{State, Outcome, outcome}
use Rattle.rrs_lib.specs.Steps.{StepAnswer, cleared, answered}
use Rattle.rrs_lib.specs.Accesses.{Access}
use Rattle.rrs_words.specs.declared.forms.ShortForm.{ShortForm}
use Rattle.rrs_words.specs.declared.layers.LayerInstruction.{LayerInstruction}
use Rattle.rrs_words.specs.Forms.{form_table, expanded_fields}
use Rattle.rrs_words.specs.declared.csrs.HartProfile.{HartProfile}
use Rattle.rrs_hart.specs.declared.halves.Encoding.{Encoding}
use Rattle.rrs_hart.specs.declared.halves.Encoding.TheVariants.{Short, Long}
use Rattle.rrs_hart.specs.Atomics.{AtomicOutcome, leaves}
use Rattle.rrs_hart.specs.Profiles.{Hart, hart_with, layer_outcome, layer_accesses, moved, moved_on}
use Rattle.rrs_hart.specs.Halves.{bits_of, bytes_of, fetch_reads, StandsFor, IsLayers, IsIllegalIn, advanced_by, Sized, IsCarriedOut, RowStep, AsRow, AsBytes, AccessesOfRowStep, OfRow, OfBytes, HalvesStep, NotFetched, NoInstruction, ARow, ALayer, IsNothing, AccessesOfHalves, FetchAlone, FetchAndRow, FetchAndLayer}
use Rattle.rrs_hart.proofs.OneLayer.{one_layer}
use Rattle.rrs_hart.proofs.OneShort.{one_short}

-- ---- what is fetched

abbrev an_encoding : Encoding → Result Encoding InstructionException
an_encoding x = Ok x

abbrev a_fault : InstructionException → Result Encoding InstructionException
a_fault e = Err e

-- one result
pub same_Ok : (x y : Encoding) (o : Result Encoding InstructionException) → o ≡ Ok x → o ≡ Ok y → x ≡ y
same_Ok x y o is is' =
    let same : an_encoding x ≡ an_encoding y = sym is ∙ is' in
    cc

pub same_Err : (e e' : InstructionException) (o : Result Encoding InstructionException) → o ≡ Err e → o ≡ Err e' → e ≡ e'
same_Err e e' o is is' =
    let same : a_fault e ≡ a_fault e' = sym is ∙ is' in
    cc

pub not_both : (x : Encoding) (e : InstructionException) (o : Result Encoding InstructionException) → o ≡ Ok x → o ≡ Err e → ⊥
not_both x e o is is' =
    let same : an_encoding x ≡ a_fault e = sym is ∙ is' in
    cc

-- an encoding is one row at most
pub one_row_stands : (x : Encoding) (row row' : Row) (f f' : Fields) → StandsFor x row f → StandsFor x row' f' → (row ≡ row') × (f ≡ f')
one_row_stands (Long w) row row' f f' is is' = one_row_at_most w row row' f f' is is'
one_row_stands (Short h) row row' f f' is is' =
    let same = one_short h is.form is'.form is.operands is'.operands is.is is'.is in (
      is.row_is ∙ ap (λ (form : ShortForm). (form_table form).row) same.0 ∙ sym is'.row_is,
      is.fields_are ∙ (λ k. expanded_fields (same.0 k) (same.1 k)) ∙ sym is'.fields_are,
    )

-- and one instruction of a layer
pub one_layer_stands : (p : HartProfile) (x : Encoding) (i j : LayerInstruction) → IsLayers p x i → IsLayers p x j → i ≡ j
one_layer_stands p (Long w) i j is is' = one_layer w i j is.1 is'.1
one_layer_stands p (Short h) i j is is' = absurd is

-- ---- a row

Sized-unique : (n : ℕ) (row : Row) (f : Fields) (s t t' : State) (a a' : StepAnswer) → Sized n row f s t a → Sized n row f s t' a' → (t ≡ t') × (a ≡ a')
Sized-unique n row f s t t' a a' x y =
    let same : outcome x.u x.a ≡ outcome y.u y.a = same_Some _ _ (sym x.executes ∙ y.executes) in (
      x.after ∙ ap (λ (o : Outcome). advanced_by n (table row).action f s o.after o.answer) same ∙ sym y.after,
      x.answers ∙ ap (λ (o : Outcome). answered o.answer) same ∙ sym y.answers,
    )

same_carried : (p : HartProfile) (row : Row) (f : Fields) (s : State) (a a' : ℕ) (o o' : Outcome) → IsCarriedOut p row f s a o → IsCarriedOut p row f s a' o' → o ≡ o'
same_carried p row f s a a' o o' is is' = same_Some _ _ (sym is.carried ∙ is'.carried)

RowStep-unique : (p : HartProfile) (n : ℕ) (row : Row) (f : Fields) (s t t' : State) (a a' : StepAnswer) → RowStep p n row f s t a → RowStep p n row f s t' a' → (t ≡ t') × (a ≡ a')
RowStep-unique p n row f s t t' a a' (AsRow none sized) (AsRow none' sized') = Sized-unique n row f s t t' a a' sized sized'
RowStep-unique p n row f s t t' a a' (AsRow none sized) (AsBytes b o is after answers) = absurd (none b o is)
RowStep-unique p n row f s t t' a a' (AsBytes b o is after answers) (AsRow none sized) = absurd (none b o is)
RowStep-unique p n row f s t t' a a' (AsBytes b o is after answers) (AsBytes b' o' is' after' answers') =
    let same = same_carried p row f s b b' o o' is is' in (
      after ∙ ap (λ (x : Outcome). moved n x.after (answered x.answer)) same ∙ sym after',
      answers ∙ ap (λ (x : Outcome). answered x.answer) same ∙ sym answers',
    )

AccessesOfRowStep-unique : (p : HartProfile) (row : Row) (f : Fields) (s : State) (xs ys : List Access) → AccessesOfRowStep p row f s xs → AccessesOfRowStep p row f s ys → xs ≡ ys
AccessesOfRowStep-unique p row f s xs ys (OfRow none are) (OfRow none' are') = are ∙ sym are'
AccessesOfRowStep-unique p row f s xs ys (OfRow none are) (OfBytes b o is are') = absurd (none b o is)
AccessesOfRowStep-unique p row f s xs ys (OfBytes b o is are) (OfRow none are') = absurd (none b o is)
AccessesOfRowStep-unique p row f s xs ys (OfBytes b o is are) (OfBytes b' o' is' are') = are ∙ sym are'

-- ---- a step

ends_same : (t t' : Hart) (a a' : StepAnswer) (o : AtomicOutcome) → leaves t.state t.reserved a ≡ o → leaves t'.state t'.reserved a' ≡ o → (t ≡ t') × (a ≡ a')
ends_same t t' a a' o left left' =
    let same = left ∙ sym left' in
    ((λ k. hart_with (same k).after (same k).reservation), ap (λ (x : AtomicOutcome). x.answer) same)

pub HalvesStep-unique : (p : HartProfile) (s t t' : Hart) (a a' : StepAnswer) → HalvesStep p s t a → HalvesStep p s t' a' → (t ≡ t') × (a ≡ a')
HalvesStep-unique p s t t' a a' (NotFetched e is left) (NotFetched e' is' left') =
    let same = same_Err e' e _ is' is in
    ends_same t t' a a' _ left (left' ∙ ap (λ x. leaves (cleared s.state) s.reserved (Err x)) same)
HalvesStep-unique p s t t' a a' (NotFetched e is left) (NoInstruction x is' illegal left') = absurd (not_both x e _ is' is)
HalvesStep-unique p s t t' a a' (NotFetched e is left) (ARow x row f is' stands step kept) = absurd (not_both x e _ is' is)
HalvesStep-unique p s t t' a a' (NotFetched e is left) (ALayer x i is' none layers left') = absurd (not_both x e _ is' is)
HalvesStep-unique p s t t' a a' (NoInstruction x is illegal left) (NotFetched e is' left') = absurd (not_both x e _ is is')
HalvesStep-unique p s t t' a a' (NoInstruction x is illegal left) (NoInstruction x' is' illegal' left') =
    let same = same_Ok x' x _ is' is in
    ends_same t t' a a' _ left (left' ∙ ap (λ y. leaves (cleared s.state) s.reserved (Err (IllegalInstruction s.state.pc (bits_of y)))) same)
HalvesStep-unique p s t t' a a' (NoInstruction x is illegal left) (ARow x' row f is' stands step kept) =
    absurd (illegal.no_row row f (subst (λ y. StandsFor y row f) (same_Ok x' x _ is' is) stands))
HalvesStep-unique p s t t' a a' (NoInstruction x is illegal left) (ALayer x' i is' none layers left') =
    absurd (illegal.no_layer i (subst (λ y. IsLayers p y i) (same_Ok x' x _ is' is) layers))
HalvesStep-unique p s t t' a a' (ARow x row f is stands step kept) (NotFetched e is' left') = absurd (not_both x e _ is is')
HalvesStep-unique p s t t' a a' (ARow x row f is stands step kept) (NoInstruction x' is' illegal left') =
    absurd (illegal.no_row row f (subst (λ y. StandsFor y row f) (same_Ok x x' _ is is') stands))
HalvesStep-unique p s t t' a a' (ARow x row f is stands step kept) (ARow x' row' f' is' stands' step' kept') =
    let same = same_Ok x' x _ is' is in
    let rows = one_row_stands x row' row f' f (subst (λ y. StandsFor y row' f') same stands') stands in
    let there = subst (λ y. RowStep p (bytes_of y) row' f' (cleared s.state) t'.state a') same step' in
    let there = subst (λ y. RowStep p (bytes_of x) y f' (cleared s.state) t'.state a') rows.0 there in
    let there = subst (λ y. RowStep p (bytes_of x) row y (cleared s.state) t'.state a') rows.1 there in
    let ends = RowStep-unique p (bytes_of x) row f (cleared s.state) t.state t'.state a a' step there in
    ((λ k. hart_with (ends.0 k) ((kept ∙ sym kept') k)), ends.1)
HalvesStep-unique p s t t' a a' (ARow x row f is stands step kept) (ALayer x' i is' none layers left') =
    absurd (none row f (subst (λ y. StandsFor y row f) (same_Ok x x' _ is is') stands))
HalvesStep-unique p s t t' a a' (ALayer x i is none layers left) (NotFetched e is' left') = absurd (not_both x e _ is is')
HalvesStep-unique p s t t' a a' (ALayer x i is none layers left) (NoInstruction x' is' illegal left') =
    absurd (illegal.no_layer i (subst (λ y. IsLayers p y i) (same_Ok x x' _ is is') layers))
HalvesStep-unique p s t t' a a' (ALayer x i is none layers left) (ARow x' row f is' stands step kept) =
    absurd (none row f (subst (λ y. StandsFor y row f) (same_Ok x' x _ is' is) stands))
HalvesStep-unique p s t t' a a' (ALayer x i is none layers left) (ALayer x' i' is' none' layers' left') =
    let same = same_Ok x' x _ is' is in
    let one = one_layer_stands p x i' i (subst (λ y. IsLayers p y i') same layers') layers in
    ends_same t t' a a' _ left (left' ∙ (λ k. moved_on (bytes_of (same k)) (layer_outcome (one k) (cleared s.state) s.reserved)))

-- ---- its accesses

nothing_there : (p : HartProfile) (x : Encoding) (o : Result Encoding InstructionException) → IsNothing p o → o ≡ Ok x → IsIllegalIn p x
nothing_there p x o nothing is = subst (IsNothing p) is nothing

pub AccessesOfHalves-unique : (p : HartProfile) (s : Hart) (xs ys : List Access) → AccessesOfHalves p s xs → AccessesOfHalves p s ys → xs ≡ ys
AccessesOfHalves-unique p s xs ys (FetchAlone nothing are) (FetchAlone nothing' are') = are ∙ sym are'
AccessesOfHalves-unique p s xs ys (FetchAlone nothing are) (FetchAndRow x row f later is stands of are') =
    absurd ((nothing_there p x _ nothing is).no_row row f stands)
AccessesOfHalves-unique p s xs ys (FetchAlone nothing are) (FetchAndLayer x i is none layers are') =
    absurd ((nothing_there p x _ nothing is).no_layer i layers)
AccessesOfHalves-unique p s xs ys (FetchAndRow x row f later is stands of are) (FetchAlone nothing are') =
    absurd ((nothing_there p x _ nothing is).no_row row f stands)
AccessesOfHalves-unique p s xs ys (FetchAndRow x row f later is stands of are) (FetchAndRow x' row' f' later' is' stands' of' are') =
    let same = same_Ok x' x _ is' is in
    let rows = one_row_stands x row' row f' f (subst (λ y. StandsFor y row' f') same stands') stands in
    let there = subst (λ y. AccessesOfRowStep p y f' (cleared s.state) later') rows.0 of' in
    let there = subst (λ y. AccessesOfRowStep p row y (cleared s.state) later') rows.1 there in
    are ∙ ap (λ zs. fetch_reads s.state.bytes s.state.pc ++ zs) (AccessesOfRowStep-unique p row f (cleared s.state) later later' of there) ∙ sym are'
AccessesOfHalves-unique p s xs ys (FetchAndRow x row f later is stands of are) (FetchAndLayer x' i is' none layers are') =
    absurd (none row f (subst (λ y. StandsFor y row f) (same_Ok x x' _ is is') stands))
AccessesOfHalves-unique p s xs ys (FetchAndLayer x i is none layers are) (FetchAlone nothing are') =
    absurd ((nothing_there p x _ nothing is).no_layer i layers)
AccessesOfHalves-unique p s xs ys (FetchAndLayer x i is none layers are) (FetchAndRow x' row f later is' stands of are') =
    absurd (none row f (subst (λ y. StandsFor y row f) (same_Ok x' x _ is' is) stands))
AccessesOfHalves-unique p s xs ys (FetchAndLayer x i is none layers are) (FetchAndLayer x' i' is' none' layers' are') =
    let same = same_Ok x' x _ is' is in
    let one = one_layer_stands p x i' i (subst (λ y. IsLayers p y i') same layers') layers in
    are ∙ sym (are' ∙ ap (λ y. fetch_reads s.state.bytes s.state.pc ++ layer_accesses y (cleared s.state) s.reserved) one)

-- ---- the register that was written last is nothing to it

pub HalvesStep-uncleared : (p : HartProfile) (s : State) (r : Option ℕ) (t : Hart) (a : StepAnswer) → HalvesStep p (hart_with (cleared s) r) t a → HalvesStep p (hart_with s r) t a
HalvesStep-uncleared p s r t a (NotFetched e is left) = NotFetched e is left
HalvesStep-uncleared p s r t a (NoInstruction x is illegal left) = NoInstruction x is illegal left
HalvesStep-uncleared p s r t a (ARow x row f is stands step kept) = ARow x row f is stands step kept
HalvesStep-uncleared p s r t a (ALayer x i is none layers left) = ALayer x i is none layers left

pub AccessesOfHalves-uncleared : (p : HartProfile) (s : State) (r : Option ℕ) (xs : List Access) → AccessesOfHalves p (hart_with (cleared s) r) xs → AccessesOfHalves p (hart_with s r) xs
AccessesOfHalves-uncleared p s r xs (FetchAlone nothing are) = FetchAlone nothing are
AccessesOfHalves-uncleared p s r xs (FetchAndRow x row f later is stands of are) = FetchAndRow x row f later is stands of are
AccessesOfHalves-uncleared p s r xs (FetchAndLayer x i is none layers are) = FetchAndLayer x i is none layers are
