-- Pieces of a vector that are written one after another.
use Rattle.std.proofs.Common.{◌≡◌, ◌≢◌, ℕ, suc, ◌+◌, ◌-◌, ◌*◌, ◌^◌, ◌<◌, ◌≤◌, min, Bool, List, [], ◌++◌, length, slice_index, Option, Some, inl, inr, refl, sym, subst, ap, ◌∙◌, append_assoc, append-nil, arith}
use Rattle.std.proofs.lemmas.Bool.{cases_lt}
use Rattle.std.proofs.lemmas.Option.{same_Some}
use Rattle.rrs_lib.specs.declared.MemAccessSize.{MemAccessSize}
use Rattle.rrs_lib.specs.Bytes.{ByteMap, little_endian}
use Rattle.rrs_lib.specs.AccessLists.{Access, Makes}
use Rattle.rrs_lib.proofs.Making.{Makes-append}
use Rattle.rrs_fast.specs.Serving.{MakesSome}
use Rattle.rrs_linux.specs.Transfers.{Takes, Stands, most_bytes}
use Rattle.rrs_linux.specs.Vectors.{IsPiece, HasNoNegative, WritesPieces, together}

-- ---- words

-- four bytes that are there make a word
pub word_there : (bytes : ByteMap) (a value b0 b1 b2 b3 : ℕ) → bytes (a + 0) ≡ Some b0 → bytes (a + 1) ≡ Some b1
    → bytes (a + 2) ≡ Some b2 → bytes (a + 3) ≡ Some b3 → value ≡ b0 + 256 * b1 + 65536 * (b2 + 256 * b3)
    → little_endian bytes a 4 ≡ Some value
word_there bytes a value b0 b1 b2 b3 h0 h1 h2 h3 is = rw (h0, h1, h2, h3) (ap Some (omega (arith, is)))

-- the same of bytes of a list that stands
pub word_stands : (bytes : ByteMap) (a index value : ℕ) (vector : List ℕ) → Stands bytes a vector
    → index + 4 ≤ length vector
    → value ≡ slice_index vector index + 256 * slice_index vector (index + 1)
    + 65536 * (slice_index vector (index + 2) + 256 * slice_index vector (index + 3))
    → little_endian bytes (a + index) 4 ≡ Some value
word_stands bytes a index value vector stands within is =
    let there : (k : ℕ) → k < 4 → bytes (a + index + k) ≡ Some (slice_index vector (index + k)) =
    λ k less. let place : a + index + k ≡ a + (index + k) = omega arith in
    ap bytes place ∙ stands (index + k) (omega (arith, less, within)) in
    let first : index + 0 ≡ index = omega arith in
    word_there bytes (a + index) value _ _ _ _ (there 0 (omega arith) ∙ ap (λ k. Some (slice_index vector k)) first)
    (there 1 (omega arith)) (there 2 (omega arith)) (there 3 (omega arith)) is

-- ---- lengths

-- no piece so far has a negative length, and the next has not
pub none_more : (bytes : ByteMap) (a k size : ℕ) → HasNoNegative bytes a k
    → little_endian bytes (a + (8 * k + 4)) 4 ≡ Some size → size < 2 ^ 31 → HasNoNegative bytes a (k + 1)
none_more bytes a k size so_far there small index other within is =
    elim (cases_lt index k) as (λ _. other < 2 ^ 31) [
      | inl less ↦ so_far index other less is
      | inr least ↦
          let place : a + 8 * index + 4 ≡ a + (8 * k + 4) = omega (arith, within, least) in
          let same : other ≡ size = same_Some _ _ (sym is ∙ ap (λ x. little_endian bytes x 4) place ∙ there) in
          omega (arith, same, small)
    ]

-- ---- pieces

module _ {M W : Type 0} (reads : M → ℕ → MemAccessSize → M → Option ℕ → Type 0)
    (writes : M → ℕ → MemAccessSize → ℕ → M → Bool → Type 0) (takes : Takes W) (bytes : ByteMap) (a n : ℕ) where
  -- so many pieces are written, of so many bytes
  pub record PiecesSoFar (index done : ℕ) (old mid : W) (m0 m1 : M) : Type 0 where
    pub accesses : List Access
    pub made : Makes reads writes accesses m0 m1
    pub rest :
        (new : W) (answer : ℕ) (later : List Access)
        → WritesPieces takes bytes (a + 8 * index) (n - index) done mid new answer later
        → WritesPieces takes bytes a n 0 old new answer (accesses ++ later)

-- the next piece is one of those that are left
one_left : {W : Type 0} (takes : Takes W) (bytes : ByteMap) (a n index done answer : ℕ) (mid new : W)
    (accesses : List Access) → index < n
    → WritesPieces takes bytes (a + 8 * index) (suc (n - (index + 1))) done mid new answer accesses
    → WritesPieces takes bytes (a + 8 * index) (n - index) done mid new answer accesses
one_left takes bytes a n index done answer mid new accesses within w =
    let left : suc (n - (index + 1)) ≡ n - index = omega (arith, within) in
    subst (λ k. WritesPieces takes bytes (a + 8 * index) k done mid new answer accesses) left w

module _ {M W : Type 0} {reads : M → ℕ → MemAccessSize → M → Option ℕ → Type 0}
    {writes : M → ℕ → MemAccessSize → ℕ → M → Bool → Type 0} {takes : Takes W} {bytes : ByteMap} {a n : ℕ} where
  pub none_so_far : {old : W} {m : M} → PiecesSoFar reads writes takes bytes a n 0 0 old old m m
  none_so_far {old = old} =
      let here : a + 8 * 0 ≡ a = omega arith in
      let all : n - 0 ≡ n = omega arith in
      record {
        accesses = [];
        made = refl;
        rest = λ new answer later w.
            subst (λ k. WritesPieces takes bytes a k 0 old new answer later) all
            (subst (λ b. WritesPieces takes bytes b (n - 0) 0 old new answer later) here w);
      }

  -- the next piece is written whole
  pub piece_more : {index done : ℕ} {old mid : W} {m0 m1 : M} (base size wanted taken : ℕ) (mid' : W) (m2 : M)
      (at : ByteMap) → PiecesSoFar reads writes takes bytes a n index done old mid m0 m1 → index < n → at ≡ bytes
      → IsPiece bytes (a + 8 * index) base size → wanted ≡ min size (most_bytes - done) → taken ≡ wanted
      → MakesSome reads writes (takes at base wanted mid mid' taken) m1 m2
      → PiecesSoFar reads writes takes bytes a n (index + 1) (done + wanted) old mid' m0 m2
  piece_more {index = index} {done = done} {old = old} {mid = mid} {m0 = m0} {m1 = m1} base size wanted taken mid' m2 at
      so_far within kept piece asked whole took =
      let first = took.accesses in
      let next : a + 8 * (index + 1) ≡ a + 8 * index + 8 = omega arith in
      let these = subst (λ f. takes f base wanted mid mid' taken first) kept took.these in
      record {
        accesses = so_far.accesses ++ first;
        made = Makes-append reads writes so_far.accesses first m0 m1 m2 so_far.made took.made;
        rest = λ new answer later w.
            let goes = subst (λ b. WritesPieces takes bytes b (n - (index + 1)) (done + wanted) mid' new answer later)
            next w in
            subst (WritesPieces takes bytes a n 0 old new answer) (sym (append_assoc so_far.accesses first later))
            (so_far.rest new answer (first ++ later)
            (one_left takes bytes a n index done answer mid new (first ++ later) within
            (base, size, wanted, taken, mid', first, later, piece, asked, these, inl (whole, goes), refl)));
      }

  -- it is not
  pub piece_short : {index done : ℕ} {old mid : W} {m0 m1 : M} (base size wanted taken answer : ℕ) (mid' : W) (m2 : M)
      (at : ByteMap) → PiecesSoFar reads writes takes bytes a n index done old mid m0 m1 → index < n → at ≡ bytes
      → IsPiece bytes (a + 8 * index) base size → wanted ≡ min size (most_bytes - done) → taken ≢ wanted
      → answer ≡ together done wanted taken → MakesSome reads writes (takes at base wanted mid mid' taken) m1 m2
      → MakesSome reads writes (WritesPieces takes bytes a n 0 old mid' answer) m0 m2
  piece_short {index = index} {done = done} {old = old} {mid = mid} {m0 = m0} {m1 = m1} base size wanted taken answer
      mid' m2 at so_far within kept piece asked short is took =
      let first = took.accesses in
      let these = subst (λ f. takes f base wanted mid mid' taken first) kept took.these in
      record {
        accesses = so_far.accesses ++ (first ++ []);
        these = so_far.rest mid' answer (first ++ [])
            (one_left takes bytes a n index done answer mid mid' (first ++ []) within
            (base, size, wanted, taken, mid', first, [], piece, asked, these, inr (short, refl, is, refl), refl));
        made = Makes-append reads writes so_far.accesses (first ++ []) m0 m1 m2 so_far.made
            (subst (λ l. Makes reads writes l m1 m2) (sym (append-nil first)) took.made);
      }

  -- all are written
  pub pieces_all : {index done : ℕ} {old mid : W} {m0 m1 : M}
      → PiecesSoFar reads writes takes bytes a n index done old mid m0 m1 → index ≡ n
      → MakesSome reads writes (WritesPieces takes bytes a n 0 old mid done) m0 m1
  pieces_all {index = index} {done = done} {old = old} {mid = mid} {m0 = m0} {m1 = m1} so_far all =
      let none : 0 ≡ n - index = omega (arith, all) in
      record {
        accesses = so_far.accesses ++ [];
        these = so_far.rest mid done [] (subst (λ k. WritesPieces takes bytes (a + 8 * index) k done mid mid done [])
            none (refl, refl, refl));
        made = subst (λ l. Makes reads writes l m0 m1) (sym (append-nil so_far.accesses)) so_far.made;
      }
