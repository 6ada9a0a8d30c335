-- Of a row that fixes its functs and shows all other fields, what a text shows determines the word.
use Rattle.std.proofs.Common.{◌≡◌, ◌⊎◌, ◌↔◌, inl, inr, ℕ, List, [], ◌∷◌, ℤ, Some, refl, ap, ◌∙◌, sym, subst}
use Rattle.rrs_lib.specs.declared.instruction_formats.RType.{RType}
use Rattle.rrs_lib.specs.declared.instruction_formats.IType.{IType}
use Rattle.rrs_lib.specs.declared.instruction_formats.ITypeShamt.{ITypeShamt}
use Rattle.rrs_lib.specs.declared.instruction_formats.SType.{SType}
use Rattle.rrs_lib.specs.declared.instruction_formats.BType.{BType}
use Rattle.rrs_lib.specs.Encodings.{Fields, R, I, IShamt, S, B, U, J, encode}
use Rattle.rrs_lib.specs.Table.{Row, table, format_of, MeetsFuncts, MeetsOperands, Decodes, IsRowAnd}
use Rattle.rrs_lib.specs.Texts.{text_of}
use Rattle.rrs_extra.specs.Showing.{shown, shown_of, ShowAlike, AreOneOrFences}
use Rattle.rrs_extra.proofs.Faithful.{ForBoth, at_both, faithful}

-- the funct3 and the funct7 of fields that have them
abbrev functs : Fields → List ℕ
functs (R f) = f.funct3 ∷ f.funct7 ∷ []
functs (I f) = f.funct3 ∷ []
functs (IShamt f) = f.funct3 ∷ f.funct7 ∷ []
functs (S f) = f.funct3 ∷ []
functs (B f) = f.funct3 ∷ []
functs (U f) = []
functs (J f) = []

-- fields of one format that are equal one by one
same_R : (f g : RType) → f.rd ≡ g.rd → f.rs1 ≡ g.rs1 → f.rs2 ≡ g.rs2 → f.funct3 ≡ g.funct3 → f.funct7 ≡ g.funct7 → R f ≡ R g
same_R f g a b c d e = λ i. R (record { funct7 = e i; rs2 = c i; rs1 = b i; funct3 = d i; rd = a i })

same_I : (f g : IType) → f.rd ≡ g.rd → f.rs1 ≡ g.rs1 → f.imm ≡ g.imm → f.funct3 ≡ g.funct3 → I f ≡ I g
same_I f g a b c d = λ i. I (record { imm = c i; rs1 = b i; funct3 = d i; rd = a i })

same_IShamt : (f g : ITypeShamt) → f.rd ≡ g.rd → f.rs1 ≡ g.rs1 → f.shamt ≡ g.shamt → f.funct3 ≡ g.funct3 → f.funct7 ≡ g.funct7 → IShamt f ≡ IShamt g
same_IShamt f g a b c d e = λ i. IShamt (record { funct7 = e i; shamt = c i; rs1 = b i; funct3 = d i; rd = a i })

same_S : (f g : SType) → f.rs2 ≡ g.rs2 → f.rs1 ≡ g.rs1 → f.imm ≡ g.imm → f.funct3 ≡ g.funct3 → S f ≡ S g
same_S f g a b c d = λ i. S (record { imm = c i; rs2 = a i; rs1 = b i; funct3 = d i })

same_B : (f g : BType) → f.rs2 ≡ g.rs2 → f.rs1 ≡ g.rs1 → f.imm ≡ g.imm → f.funct3 ≡ g.funct3 → B f ≡ B g
same_B f g a b c d = λ i. B (record { imm = c i; rs2 = a i; rs1 = b i; funct3 = d i })

-- What fields show and their functs are all of them.
pub same_fields : (f g : Fields) → format_of f ≡ format_of g → shown f ≡ shown g → functs f ≡ functs g → f ≡ g
same_fields (R f) (R g) k s t = same_R f g (cc) (cc) (cc) (cc) (cc)
same_fields (I f) (I g) k s t = same_I f g (cc) (cc) (cc) (cc)
same_fields (IShamt f) (IShamt g) k s t = same_IShamt f g (cc) (cc) (cc) (cc) (cc)
same_fields (S f) (S g) k s t = same_S f g (cc) (cc) (cc) (cc)
same_fields (B f) (B g) k s t = same_B f g (cc) (cc) (cc) (cc)
same_fields (U f) (U g) k s t =
    let a : f.rd ≡ g.rd = cc in
    let b : f.imm ≡ g.imm = cc in
    λ i. U (record { imm = b i; rd = a i })
same_fields (J f) (J g) k s t =
    let a : f.rd ≡ g.rd = cc in
    let b : f.imm ≡ g.imm = cc in
    λ i. J (record { imm = b i; rd = a i })
same_fields f g k s t = absurd (cc)

-- the row whose words are many and look alike
abbrev pub IsLax : Row → Type 0
IsLax Row.Fence = Unit {0}
IsLax _ = ⊥

-- of one row, fields that are as it says are equal if what it shows of them is
abbrev IsAsSaid : Row → Fields → Type 0
IsAsSaid row f = MeetsFuncts (table row).funct3 (table row).funct7 f × MeetsOperands (table row).operands f

abbrev Determined : Row → Fields → Fields → Type 0
Determined row f g = IsAsSaid row f → IsAsSaid row g → shown_of row f ≡ shown_of row g → f ≡ g

-- operands that are fixed are what a text of them would show
fixed_alike : {imm : ℤ} (f g : IType) → (f.rd ≡ 0) × (f.rs1 ≡ 0) × (f.imm ≡ imm) → (g.rd ≡ 0) × (g.rs1 ≡ 0) × (g.imm ≡ imm) → shown (I f) ≡ shown (I g)
fixed_alike f g a b = cc (a.0, a.1, a.2, b.0, b.1, b.2)

determined : (row : Row) → ¬ IsLax row → ForBoth (Determined row) (table row).format
determined Row.Fence strict = absurd (strict tt)
determined Row.Ecall strict = λ f g p q a b s. same_fields _ _ refl (fixed_alike f g a.1 b.1) (cc)
determined Row.Ebreak strict = λ f g p q a b s. same_fields _ _ refl (fixed_alike f g a.1 b.1) (cc)
determined _ strict = λ f g p q a b s. same_fields _ _ refl s (cc)

-- Two words of one row that is not lax are equal if they show the same.
pub same_words : (v w : ℕ) (row : Row) (f g : Fields) → ¬ IsLax row → Decodes v row f → Decodes w row g → shown_of row f ≡ shown_of row g → v ≡ w
same_words v w row f g strict is is' s =
    let fields : f ≡ g = at_both (Determined row) (table row).format f g is.format is'.format (determined row strict) is.in_range is'.in_range (is.functs, is.operands) (is'.functs, is'.operands) s in
    is.encoded ∙ ap (encode (table row).opcode) fields ∙ sym is'.encoded

-- a row is fence, or it is not lax
fence_or_strict : (row : Row) → (row ≡ Row.Fence) ⊎ (¬ IsLax row)
fence_or_strict Row.Fence = inl refl
fence_or_strict _ = inr (λ lax. lax)

-- Words that show alike are one, or both are fence.
one_or_fences : (first second : ℕ) → ShowAlike first second → AreOneOrFences first second
one_or_fences first second alike =
    elim (fence_or_strict alike.row) [
      | inl fence ↦ inr (
        (alike.first_fields, subst (λ r. Decodes first r alike.first_fields) fence alike.is_first),
        (alike.second_fields, subst (λ r. Decodes second r alike.second_fields) fence alike.is_second),
      )
      | inr strict ↦ inl (same_words first second alike.row alike.first_fields alike.second_fields strict alike.is_first alike.is_second alike.same)
    ]

-- One word of a row shows what it shows, and so do two of fence.
alike_from : (first second : ℕ) (row : Row) (f : Fields) → Decodes first row f → AreOneOrFences first second → ShowAlike first second
alike_from first second row f is (inl same) =
    record { row = row; first_fields = f; second_fields = f; is_first = is; is_second = subst (λ w. Decodes w row f) same is; same = refl }
alike_from first second row f is (inr fences) =
    record { row = Row.Fence; first_fields = fences.0.0; second_fields = fences.1.0; is_first = fences.0.1; is_second = fences.1.1; same = refl }

-- Two texts at one address are equal exactly when their words are one or both fence.
pub words_faithful : (pc first second : ℕ) (a b : List ℕ) → IsRowAnd first (λ row f. text_of row f pc ≡ Some a) → IsRowAnd second (λ row f. text_of row f pc ≡ Some b)
    → (a ≡ b) ↔ AreOneOrFences first second
words_faithful pc first second a b x y =
    let texts = faithful pc first second a b x y in
    (λ same. one_or_fences first second (texts.0 same), λ one. texts.1 (alike_from first second x.row x.fields x.is one))
