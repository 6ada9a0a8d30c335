-- What is defined by statements after one another.
use Rattle.std.proofs.Common.{◌≡◌, ◌⊎◌, ℕ, zero, suc, Bool, List, [], ◌∷◌, ◌++◌, Some, None, subst, ap, refl, sym, ◌∙◌, true, false, ◌||◌, is_some, arith}
use Rattle.std.proofs.lemmas.Bool.{cases_Bool}
use Rattle.std.proofs.lemmas.List.Folds.{list_any-append}
use Rattle.std.specs.Option.{option_map, option_map_or}
use Rattle.std.specs.Borrow.{Bor}
use Rattle.std.specs.Str.{bytes_eq}
use Rattle.rrs_asm_macros.specs.Scanning.{code_from, first_label, others_from}
use Rattle.rrs_asm_macros.specs.Symbols.{Defines, so_many_labels, so_many_symbols, symbols_of, is_one}
use Rattle.rrs_asm_macros.specs.Tables.{symbol_named}
use Rattle.rrs_asm_macros.specs.declared.scanning.Place.{Place}
use Rattle.rrs_asm_macros.specs.declared.symbols.Symbols.{Symbols}
use Rattle.std.specs.BTreeMap.{BTreeMap, Updates, get_by, is_at}
use Rattle.std.specs.Map.{lookup, IsKeyTest, AreApart, KeepsOthers}
use Rattle.std.specs.Cmp.{eq_by_cmp_equiv}
use Rattle.std.specs.Cmp.Lexicographic.{slice_cmp, bytes_decides, nat_list_cmp_total, nat_list_eq_equiv}
use Rattle.std.specs.Ordering.{is_eq, nat_cmp}
use Rattle.std.specs.Prelude.{Vec, Option}
use Rattle.std.proofs.lemmas.Map.Text.{is_eq-slice_cmp}
use mathlib.Core.Bool.{false≢true}
use mathlib.Core.Logic.{⊎_elim}

pub one_more : (most : ℕ) (code name others : List ℕ) → first_label code ≡ Some (name, others)
    → so_many_labels (suc most) code ≡ name ∷ so_many_labels most others
one_more most code name others e = ap (λ found. option_map_or (λ label. label.0 ∷ so_many_labels most label.1) found []) e

-- nothing is defined
pub none_more : {A : Type 0} (symbols : Symbols A) → Defines symbols symbols []
none_more symbols = record {
  defined = λ long name e. absurd (false≢true e);
  others_kept = λ name e. refl;
  short_kept = λ e. e;
}

-- no memory was missing before
long_before : {A : Type 0} (b c : Symbols A) (ys : List (List ℕ)) → Defines b c ys
    → c.is_short ≡ false → b.is_short ≡ false
long_before b c ys two long = ⊎_elim
    (λ y. absurd (false≢true (sym long ∙ two.short_kept y))) (λ n. n) (cases_Bool b.is_short)

first_one : (x y : Bool) → (x || y) ≡ true → y ≡ false → x ≡ true
first_one x y e n = grind (arith, e, n)

none_first : (x y : Bool) → (x || y) ≡ false → x ≡ false
none_first x y e = grind (arith, e)

none_second : (x y : Bool) → (x || y) ≡ false → y ≡ false
none_second x y e = grind (arith, e)

either : (xs ys : List (List ℕ)) (name : List ℕ)
    → is_one (xs ++ ys) name ≡ (is_one xs name || is_one ys name)
either xs ys name = list_any-append (λ own. bytes_eq own name) xs ys

-- what two after one another define
pub both : {A : Type 0} (a b c : Symbols A) (xs ys : List (List ℕ)) → Defines a b xs
    → Defines b c ys → Defines a c (xs ++ ys)
both a b c xs ys one two = record {
  defined = λ long name e. ⊎_elim (λ y. two.defined long name y)
      (λ n. ap is_some (two.others_kept name n) ∙ one.defined (long_before b c ys two long) name
      (first_one (is_one xs name) (is_one ys name) (sym (either xs ys name) ∙ e) n))
      (cases_Bool (is_one ys name));
  others_kept = λ name e.
      two.others_kept name (none_second (is_one xs name) (is_one ys name) (sym (either xs ys name) ∙ e))
      ∙ one.others_kept name (none_first (is_one xs name) (is_one ys name) (sym (either xs ys name) ∙ e));
  short_kept = λ e. two.short_kept (one.short_kept e);
}

other_entries : {K X : Type 0} (eq : K → K → Bool) (test : K → Bool) (old new : List (K × X))
    → KeepsOthers eq test old new → (other : K → Bool) → IsKeyTest eq other → AreApart test other
    → lookup other new ≡ lookup other old
unfolding KeepsOthers
other_entries eq test old new h = h

apart : (bs cs ks : List ℕ) → bytes_eq bs cs ≡ false → is_eq (slice_cmp nat_cmp bs ks) ≡ true
    → is_eq (slice_cmp nat_cmp cs ks) ≡ false
apart bs cs ks n y = is_eq-slice_cmp cs ks ∙ nat_list_eq_equiv.symm cs ks
    ∙ sym (nat_list_eq_equiv.congr bs ks cs (sym (is_eq-slice_cmp bs ks) ∙ y)) ∙ n

-- a change at one name leaves what the others are
pub others_stay : {A X : Type 0} (key : Vec ℕ A) (old new : BTreeMap (Vec ℕ A) X) (w : Option X)
    → Updates (λ x y. slice_cmp nat_cmp x.items y.items) old new key w
    → (name : List ℕ) → bytes_eq key.items name ≡ false
    → get_by (λ k. slice_cmp nat_cmp name k.items) new ≡ get_by (λ k. slice_cmp nat_cmp name k.items) old
others_stay key old new w h name e = other_entries _ _ _ _ h.3 _
    (λ x y. (eq_by_cmp_equiv nat_list_cmp_total).congr name x.items y.items)
    (λ k. apart key.items name k.items e)

-- one symbol is put
pub put : {A : Type 0} (old new : Symbols A) (key : Vec ℕ A) (name : List ℕ) (value : Option ℕ)
    → key.items ≡ name
    → Updates (λ x y. slice_cmp nat_cmp x.items y.items) old.values new.values key (Some value)
    → (old.is_short ≡ true → new.is_short ≡ true) → Defines old new (name ∷ [])
put old new key name value same h short =
    let here : symbol_named name new ≡ Some value =
    subst (λ n. get_by (λ k. slice_cmp nat_cmp n k.items) new.values ≡ Some value) same h.1 in
    record {
      defined = λ long own e. subst (λ n. is_some (symbol_named n new) ≡ true)
          ((bytes_decides name own).0 (first_one (bytes_eq name own) false e refl)) (ap is_some here);
      others_kept = λ own e. others_stay key old.values new.values (Some value) h own
          (ap (λ n. bytes_eq n own) same ∙ none_first (bytes_eq name own) false e);
      short_kept = short;
    }

-- memory is missing for one
pub missing : {A : Type 0} (old new : Symbols A) (names : List (List ℕ)) → new.values.entries ≡ old.values.entries
    → new.is_short ≡ true → Defines old new names
missing old new names same short = record {
  defined = λ long name e. absurd (false≢true (sym long ∙ short));
  others_kept = λ name e. ap (λ es. lookup (is_at (λ k. slice_cmp nat_cmp name k.items)) es) same;
  short_kept = λ e. short;
}

pub no_more : (most : ℕ) (code : List ℕ) → first_label code ≡ None → so_many_labels most code ≡ []
no_more zero code e = refl
no_more (suc most) code e = ap (λ found. option_map_or (λ label. label.0 ∷ so_many_labels most label.1) found []) e

through : (most : ℕ) (others : Option (Bor (List ℕ)))
    → option_map_or (λ rest. so_many_symbols most rest) (option_map (λ rest. rest.now) others) []
    ≡ option_map_or (λ rest. so_many_symbols most rest.now) others []
through most None = refl
through most (Some rest) = refl

-- what a line defines is what its first statement does, and the others after it
pub one_statement : (most : ℕ) (line code : List ℕ) (others : Option (Bor (List ℕ)))
    → code ≡ code_from Place.Plain line
    → option_map (λ rest. rest.now) others ≡ others_from Place.Plain line
    → so_many_symbols (suc most) line
    ≡ symbols_of code ++ option_map_or (λ rest. so_many_symbols most rest.now) others []
one_statement most line code others c o = sym
    (ap (λ x. symbols_of x ++ option_map_or (λ rest. so_many_symbols most rest.now) others []) c
    ∙ ap (λ more. symbols_of (code_from Place.Plain line) ++ more)
    (sym (through most others) ∙ ap (λ rest. option_map_or (λ r. so_many_symbols most r) rest []) o))

pub none_left : (others : Option (Bor (List ℕ)))
    → option_map_or (λ rest. so_many_symbols 0 rest.now) others [] ≡ []
none_left None = refl
none_left (Some rest) = refl
