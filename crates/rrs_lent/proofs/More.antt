-- What is told of one more, and of statements that lie one after the other.
use Rattle.std.proofs.Common.{◌≡◌, ℕ, ◌+◌, ◌++◌, ◌<◌, ◌≤◌, List, [], ◌∷◌, All, length, take, get_or, refl, sym, subst, ap, ◌∙◌, append_assoc, length-append, arith}
use Rattle.std.specs.Prelude.{min}
use Rattle.std.proofs.lemmas.List.{take_more, append-nil}
use Rattle.std.proofs.lemmas.List.Elements.{All-head, All-tail}
use Rattle.rrs_asm.specs.declared.output.Placed.{Placed}
use Rattle.rrs_asm.specs.declared.sections.Section.{Section}
use Rattle.rrs_asm.specs.Statements.{LaysOut}
use Rattle.rrs_asm.specs.Sections.{AreLaidOut}
use Rattle.rrs_lent.specs.declared.outcome.RrsStatement.{RrsStatement}
use Rattle.rrs_lent.specs.declared.outcome.RrsMistake.{RrsMistake}
use Rattle.rrs_lent.specs.Telling.{TellStatements, TellAll, LieBehind}
use Rattle.rrs_lent.specs.Steps.{IsAsLong, AreAsLong, AreAllAsLong, IsShort}

-- ---- mistakes

-- one mistake more, whose text lies after the others
pub lie-more : (at : ℕ) (ms : List RrsMistake) (m : RrsMistake) (end : ℕ) → LieBehind at ms end → m.text ≡ end → LieBehind at (ms ++ m ∷ []) (end + m.length)
lie-more at [] m end lies here = (here ∙ sym lies, ap (λ n. n + m.length) lies)
lie-more at (x ∷ xs) m end (is, lies) here = (is, lie-more (at + x.length) xs m end lies here)

-- a mistake is put after others, and its text after theirs
pub lie-pushed : (ms new : List RrsMistake) (m : RrsMistake) (texts own all : List ℕ) → LieBehind 0 ms (length texts) → m.text ≡ length texts → new ≡ ms ++ m ∷ [] → m.length ≡ length own
    → all ≡ texts ++ own → LieBehind 0 new (length all)
lie-pushed ms new m texts own all lies here pushed long behind =
    let end : length all ≡ length texts + m.length = ap length behind ∙ length-append texts own ∙ ap (λ n. length texts + n) (sym long) in rw (pushed, end) (lie-more 0 ms m (length texts) lies here)

-- ---- statements

-- one statement more
pub as-long-more : (numbers : List ℕ) (ps : List Placed) (ts : List RrsStatement) (p : Placed) (t : RrsStatement) → AreAsLong numbers ps ts → IsAsLong numbers p t → AreAsLong numbers (ps ++ p ∷ []) (ts ++ t ∷ [])
as-long-more numbers [] ts p t none long = (t, [], long, refl, rw none refl)
as-long-more numbers (x ∷ xs) ts p t (own, rest, is, are, all) long = (own, rest ++ t ∷ [], is, as-long-more numbers xs rest p t are long, rw all refl)

-- one section more
pub all-as-long-more : {A : Type 0} (numbers : List ℕ) (ss : List (Section A)) (ts : List RrsStatement) (s : Section A) (own : List RrsStatement) → AreAllAsLong numbers ss ts → AreAsLong numbers s.made.placed.items own
    → AreAllAsLong numbers (ss ++ s ∷ []) (ts ++ own)
all-as-long-more numbers [] ts s own none long = (own, [], long, refl, rw none (sym (append-nil own)))
all-as-long-more numbers (x ∷ xs) ts s own (first, rest, is, are, all) long =
    (first, rest ++ own, is, all-as-long-more numbers xs rest s own are long, rw all (append_assoc first rest own))

-- a statement is put after those before
pub as-long-pushed : (numbers : List ℕ) (ps : List Placed) (i : ℕ) (told before new : List RrsStatement) (d p : Placed) (t : RrsStatement) → i < length ps → p ≡ get_or ps i d → IsAsLong numbers p t
    → new ≡ told ++ t ∷ [] → ((own : List RrsStatement) × AreAsLong numbers (take i ps) own × (told ≡ before ++ own))
    → (own : List RrsStatement) × AreAsLong numbers (take (i + 1) ps) own × (new ≡ before ++ own)
as-long-pushed numbers ps i told before new d p t below is long pushed (own, longs, same) =
    let more : take (i + 1) ps ≡ take i ps ++ p ∷ [] = take_more ps i d below ∙ ap (λ x. take i ps ++ x ∷ []) (sym is) in
    let P : List Placed → Type 0 = λ xs. AreAsLong numbers xs (own ++ t ∷ []) in
    (own ++ t ∷ [], subst P (sym more) (as-long-more numbers (take i ps) own p t longs long), pushed ∙ ap (λ xs. xs ++ t ∷ []) same ∙ append_assoc before own (t ∷ []))

-- the statements of a section are put after those of the sections before
pub all-as-long-pushed : {A : Type 0} (numbers : List ℕ) (ss : List (Section A)) (i : ℕ) (told new : List RrsStatement) (s : Section A) (placed : List Placed) → i < length ss → s ≡ get_or ss i s
    → placed ≡ s.made.placed.items → ((own : List RrsStatement) × AreAsLong numbers placed own × (new ≡ told ++ own)) → AreAllAsLong numbers (take i ss) told → AreAllAsLong numbers (take (i + 1) ss) new
all-as-long-pushed numbers ss i told new s placed below is value (own, longs, pushed) all =
    let more : take (i + 1) ss ≡ take i ss ++ s ∷ [] = take_more ss i s below ∙ ap (λ x. take i ss ++ x ∷ []) (sym is) in
    let Own : List Placed → Type 0 = λ xs. AreAsLong numbers xs own in
    let P : List (Section _) → Type 0 = λ xs. AreAllAsLong numbers xs (told ++ own) in
    rw pushed (subst P (sym more) (all-as-long-more numbers (take i ss) told s own all (subst Own value longs)))

-- statements that lie one after the other, in no more bytes than an assembler makes, are told
tell-statements : (numbers : List ℕ) (ps : List Placed) (ts : List RrsStatement) (address : ℕ) (bytes : List ℕ) → length bytes ≤ 0x4000000 → LaysOut address ps bytes → AreAsLong numbers ps ts
    → TellStatements numbers ps ts
tell-statements numbers [] ts address bytes short laid none = none
tell-statements numbers (p ∷ ps) ts address bytes short (own, rest, at, are, laid, whole) (t, others, long, longs, all) =
    let sum : length bytes ≡ length own + length rest = ap length whole ∙ length-append own rest in
    let below : length rest ≤ 0x4000000 = omega (arith, sum, short) in
    let size : t.size ≡ min (length own) 0xffffffff = long.size own are in (
      t,
      others,
      record { line = long.line; address = long.address; own = own; bytes = are; size = omega (arith, size, sum, short) },
      tell-statements numbers ps others (address + length own) rest below laid longs,
      all,
    )

-- those of each section are told
pub tell-all : {A : Type 0} (numbers : List ℕ) (ss : List (Section A)) (ts : List RrsStatement) → All IsShort ss → AreLaidOut ss → AreAllAsLong numbers ss ts → TellAll numbers ss ts
tell-all numbers [] ts short laid none = none
tell-all numbers (s ∷ ss) ts short (here, laid) (own, rest, long, longs, all) =
    let own_short : length s.made.bytes.items ≤ 0x4000000 = All-head IsShort s ss short in (
      own,
      rest,
      tell-statements numbers s.made.placed.items own s.address s.made.bytes.items own_short here long,
      tell-all numbers ss rest (All-tail IsShort s ss short) laid longs,
      all,
    )
