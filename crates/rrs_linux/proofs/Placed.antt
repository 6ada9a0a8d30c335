-- Bytes of the input that are at hand, and given to a buffer.
use Rattle.std.proofs.Common.{◌≡◌, ℕ, ◌+◌, ◌-◌, ◌^◌, ◌<◌, ◌≤◌, min, Bool, List, [], ◌++◌, length, take, drop, slice_range, Option, refl, sym, subst, ap, ◌∙◌, append-nil, inl, arith, rules}
use Rattle.std.proofs.lemmas.List.{nil_from_length, drop-take, drop-drop, length-take, length-drop, length-append}
use Rattle.std.proofs.KnownBytes.{Consumes-nil}
use Rattle.rrs_lib.specs.declared.MemAccessSize.{MemAccessSize}
use Rattle.rrs_lib.specs.Bytes.{ByteMap}
use Rattle.rrs_lib.specs.AccessLists.{Access}
use Rattle.rrs_lib.specs.Loading.{Loaded, byte_writes}
use Rattle.rrs_fast.specs.Serving.{MakesSome}
use Rattle.rrs_linux.specs.Giving
use Rattle.rrs_linux.specs.Giving.{GivesText, GivingEnds}
use Rattle.rrs_linux.specs.Requests.{error}
use Rattle.rrs_linux.specs.Statuses
use Rattle.rrs_linux.specs.Statuses.{PutsBytes, IsPut}
use Rattle.rrs_linux.specs.Transfers.{Fills, ReadEnds, IsGiven, IsRefused, PassesEnd, ReadsText, most_bytes}

-- a range whose first elements are left out
pub range_skipped : (xs : List ℕ) (s e n : ℕ) → n ≤ length (slice_range xs s e)
    → slice_range xs (s + n) e ≡ drop n (slice_range xs s e)
range_skipped xs s e n within =
    let long : length (slice_range xs s e) ≡ min (e - s) (length (drop s xs)) = length-take (e - s) (drop s xs) in
    let m = e - (s + n) in
    let parts : e - s ≡ n + m = omega (arith, within, long) in
    sym (ap (λ k. drop n (take k (drop s xs))) parts ∙ drop-take n m (drop s xs) ∙ ap (take m) (drop-drop n s xs))

pub no_length : (xs : List ℕ) → length xs ≡ 0 → xs ≡ []
no_length = nil_from_length

-- nothing is taken of the host
pub Fills-none : (most : ℕ) (held : List ℕ) (left : Option (List ℕ)) → Fills most held held left left
Fills-none most held left = record {
  taken = [];
  consumed = Consumes-nil left;
  within = omega arith;
  only_then = inl refl;
  together = sym (append-nil held);
}

pub none_loaded : (bytes : ByteMap) (writable : ℕ → Bool) (a : ℕ) → a < 2 ^ 32 → Loaded bytes bytes writable a []
none_loaded bytes writable a low = search rules

-- what is given of the bytes at hand
ends_so : {writable : ℕ → Bool} {a count failures failures' answer : ℕ} {left : Option (List ℕ)}
    (at_hand text : List ℕ) (accesses : List Access) → 0 < count → 0 < length at_hand
    → GivingEnds writable a count at_hand text accesses answer
    → ReadEnds writable a count at_hand text left failures failures' accesses answer
ends_so at_hand text accesses asked some (Giving.IsWhole fits long made answers) =
    IsGiven fits (omega (arith, long)) long made answers
ends_so at_hand text accesses asked some (Giving.IsRefused byte more fits short is refused made answers) =
    IsRefused byte more fits short refused is made answers
ends_so at_hand text accesses asked some (Giving.PassesEnd past none made answers) =
    PassesEnd past none made answers

module _ {M : Type 0} {reads : M → ℕ → MemAccessSize → M → Option ℕ → Type 0}
    {writes : M → ℕ → MemAccessSize → ℕ → M → Bool → Type 0} {writable : ℕ → Bool} {bytes : ByteMap} {a count : ℕ}
    {held : List ℕ} {left left' : Option (List ℕ)} {failures failures' answer : ℕ} where
  -- nothing was given
  pub nothing_placed : {at_hand : List ℕ} {most : ℕ} {m : M} → a < 2 ^ 32
      → most ≡ min count most_bytes → Fills most held at_hand left left'
      → ReadEnds writable a count at_hand [] left' failures failures' [] answer
      → MakesSome reads writes (ReadsText writable bytes bytes a count held at_hand left left' failures failures' answer)
      m m
  nothing_placed {at_hand = at_hand} low asked filled ended = record {
    accesses = [];
    these = record {
      text = [];
      loaded = none_loaded bytes writable a low;
      at_hand = at_hand;
      filled = subst (λ n. Fills n held at_hand left left') asked filled;
      kept = refl;
      ended = ended;
    };
    made = refl;
  }

  -- bytes at hand were given, and those after them are held
  pub placed : {bytes' : ByteMap} {most : ℕ} {m m' : M} (given at_hand after : List ℕ) (n : ℕ) → 0 < most
      → most ≡ min count most_bytes → 0 < length at_hand → Fills most held at_hand left left' → given ≡ at_hand
      → after ≡ drop n at_hand
      → MakesSome reads writes (GivesText writable bytes bytes' a count given (drop n given) answer) m m'
      → MakesSome reads writes (ReadsText writable bytes bytes' a count held after left left' failures failures' answer)
      m m'
  placed given at_hand after n more asked some filled same behind made =
      let of = made.these in
      record {
        accesses = made.accesses;
        these = record {
          text = of.text;
          loaded = of.loaded;
          at_hand = at_hand;
          filled = subst (λ n. Fills n held at_hand left left') asked filled;
          kept = sym same ∙ of.consumed ∙ ap (λ l. of.text ++ l) (ap (drop n) same ∙ sym behind);
          ended = ends_so at_hand of.text made.accesses (omega (arith, more, asked)) some
              (subst (λ l. GivingEnds writable a count l of.text made.accesses answer) same of.ended);
        };
        made = made.made;
      }

-- A structure is put: as many of its bytes are given as there are, or those before an address that is not writable.
pub record Put (writable : ℕ → Bool) (bytes bytes' : ByteMap) (a : ℕ) (whole : List ℕ) (n : ℕ) (xs : List Access)
    : Type 0 where
  pub all : n ≡ length whole → PutsBytes writable bytes bytes' a whole xs 0
  pub not_all : (n ≡ length whole → ⊥) → PutsBytes writable bytes bytes' a whole xs (error 14)

put_by : {writable : ℕ → Bool} {bytes bytes' : ByteMap} {a count answer : ℕ} {xs : List Access}
    (whole text left : List ℕ) (n : ℕ) → count ≡ length whole → length whole ≤ most_bytes → 0 < length whole
    → length text ≡ n → whole ≡ text ++ left → Loaded bytes bytes' writable a text
    → GivingEnds writable a count whole text xs answer → Put writable bytes bytes' a whole n xs
put_by {writable = writable} {bytes = bytes} {bytes' = bytes'} {a = a} {xs = xs} whole text left n asked small some long
    parts loaded (Giving.IsWhole fits given made _) =
    let all : n ≡ length whole = omega (arith, given, asked, small, long) in
    let none : length left ≡ 0 = omega (arith, ap length parts, length-append text left, long, all) in
    let same : text ≡ whole = sym (append-nil text) ∙ ap (λ l. text ++ l) (sym (no_length left none)) ∙ sym parts in
    record {
      all = λ e. IsPut (subst (Loaded bytes bytes' writable a) same loaded) (made ∙ ap (byte_writes writable a) same)
          refl;
      not_all = λ other. absurd (other all);
    }
put_by whole text left n asked small some long parts loaded (Giving.IsRefused byte rest fits short is closed made _) =
    let less : n < length whole = omega (arith, short, asked, long) in
    record {
      all = λ e. absurd (omega (arith, e, less));
      not_all = λ other. Statuses.IsRefused text byte rest is (omega (arith, fits, asked)) loaded closed made refl;
    }
put_by {writable = writable} {bytes = bytes} {bytes' = bytes'} {a = a} whole text left n asked small some long parts
    loaded (Giving.PassesEnd past none made _) =
    let zero_given : n ≡ 0 = sym long ∙ ap length none in
    record {
      all = λ e. absurd (omega (arith, e, zero_given, some));
      not_all = λ other. Statuses.PassesEnd (omega (arith, past, asked)) (subst (Loaded bytes bytes' writable a) none loaded)
          made refl;
    }

pub put_of : {writable : ℕ → Bool} {bytes bytes' : ByteMap} {a count answer : ℕ} {xs : List Access} (whole : List ℕ)
    (n : ℕ) → count ≡ length whole → length whole ≤ most_bytes → 0 < length whole → n ≤ length whole
    → GivesText writable bytes bytes' a count whole (drop n whole) answer xs → Put writable bytes bytes' a whole n xs
put_of {writable = writable} {bytes = bytes} {bytes' = bytes'} {a = a} {count = count} {answer = answer} {xs = xs} whole
    n asked small some within gave =
    let behind : length (drop n whole) ≡ length whole - n = length-drop n whole in
    let both : length whole ≡ length gave.text + length (drop n whole) =
    ap length gave.consumed ∙ length-append gave.text (drop n whole) in
    put_by whole gave.text (drop n whole) n asked small some (omega (arith, behind, both, within)) gave.consumed
    gave.loaded gave.ended
