-- What is told of a source stands in buffers that have room for it, or says what it needs.
use Rattle.std.proofs.Common.{◌≡◌, ℕ, ◌++◌, List, length, take, refl, ap, arith}
use Rattle.std.proofs.Math.Seq.{take-append_seam}
use Rattle.rrs_lent.specs.declared.outcome.RrsStatement.{RrsStatement}
use Rattle.rrs_lent.specs.declared.outcome.RrsSymbol.{RrsSymbol}
use Rattle.rrs_lent.specs.declared.outcome.RrsAssembled.{RrsAssembled}
use Rattle.rrs_lent.specs.declared.told.Told.{Told}
use Rattle.rrs_lent.specs.Telling.{Assembles, Needs, OfProgram, OfMistakes}
use Rattle.rrs_lent.specs.Steps.{IsTold, IsProgram, IsRefused, counted}

-- where a buffer is too small
abbrev pub too_small : RrsAssembled → RrsAssembled
too_small r = record {
  end = 3;
  entry = r.entry;
  bytes = r.bytes;
  statements = r.statements;
  symbols = r.symbols;
  mistakes = r.mistakes;
  texts = r.texts;
  room = r.room;
}

needs-counted : {A : Type 0} (source : List ℕ) (start : ℕ) (told : Told A) → IsTold source start told → Needs A source start (too_small (counted told))
needs-counted source start told (IsProgram ended none made) =
    OfProgram told.bytes.items told.statements.items told.symbols.items told.texts.items made
    record { bytes_are = refl; statements_are = refl; symbols_are = refl; mistakes_are = ap length none; texts_are = refl }
needs-counted source start told (IsRefused ended entry bytes statements symbols mistakes) =
    OfMistakes told.mistakes.items told.texts.items mistakes
    record { bytes_are = ap length bytes; statements_are = ap length statements; symbols_are = ap length symbols; mistakes_are = refl; texts_are = refl }

-- it says what it needs
pub needs : {A : Type 0} (source : List ℕ) (start : ℕ) (told : Told A) (r : RrsAssembled) → IsTold source start told → r ≡ counted told → Needs A source start (too_small r)
needs source start told r is counts = rw counts (needs-counted source start told is)

front : {X : Type 0} (xs rest buffer : List X) (count : ℕ) → count ≡ length xs → buffer ≡ xs ++ rest → take count buffer ≡ xs
front xs rest buffer count counts same = rw (counts, same) (take-append_seam xs rest)

-- a program stands in the buffers
pub assembled : {A : Type 0} (source : List ℕ) (start : ℕ) (told : Told A) (r : RrsAssembled) (bytes bytes_behind : List ℕ) (statements statements_behind : List RrsStatement)
    (symbols symbols_behind : List RrsSymbol) (texts texts_behind : List ℕ) → IsTold source start told → r ≡ counted told → r.end ≡ 0 → bytes ≡ told.bytes.items ++ bytes_behind
    → statements ≡ told.statements.items ++ statements_behind → symbols ≡ told.symbols.items ++ symbols_behind → texts ≡ told.texts.items ++ texts_behind
    → Assembles A source start r.entry (take r.bytes bytes) (take r.statements statements) (take r.symbols symbols) (take r.texts texts)
assembled source start told r bytes bb statements sb symbols yb texts tb (IsProgram ended none made) counts zero b s y t =
    let fb : take r.bytes bytes ≡ told.bytes.items = front told.bytes.items bb bytes r.bytes (ap (λ (x : RrsAssembled). x.bytes) counts) b in
    let fs : take r.statements statements ≡ told.statements.items = front told.statements.items sb statements r.statements (ap (λ (x : RrsAssembled). x.statements) counts) s in
    let fy : take r.symbols symbols ≡ told.symbols.items = front told.symbols.items yb symbols r.symbols (ap (λ (x : RrsAssembled). x.symbols) counts) y in
    let ft : take r.texts texts ≡ told.texts.items = front told.texts.items tb texts r.texts (ap (λ (x : RrsAssembled). x.texts) counts) t in
    let fe : r.entry ≡ told.entry = ap (λ (x : RrsAssembled). x.entry) counts in
    rw (fb, fs, fy, ft, fe) made
assembled source start told r bytes bb statements sb symbols yb texts tb (IsRefused ended entry none nothing empty mistakes) counts zero b s y t =
    let one : r.end ≡ told.end = ap (λ (x : RrsAssembled). x.end) counts in
    absurd (omega (arith, one, ended, zero))
