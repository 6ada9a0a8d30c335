-- What is read of a packet, byte by byte, and what a link exchanges.
use Rattle.std.proofs.Common.{◌≡◌, ◌≢◌, ℕ, ◌<◌, ◌≤◌, ◌==◌, if◌then◌else◌, Bool, true, false, codes, is_some, List, [], ◌∷◌, ◌++◌, length, take, nat_lt, Option, None, Some, ◌⊎◌, refl, sym, subst, ap, ◌∙◌, inl, inr, append_assoc, append-nil, lit<, arith}
use Rattle.std.proofs.lemmas.List.{take_all, take-append-le, length-take, length-append}
use Rattle.std.proofs.lemmas.Bool.Decides.{nat_tests}
use Rattle.std.specs.Io.KnownBytes.{Appends, Consumes, Keeps}
use Rattle.std.proofs.KnownBytes.{Consumes-kept, Consumes-nil, Consumes-trans, Keeps-refl}
use Rattle.rrs_gdb.specs.declared.link.Frame.{Frame}
use Rattle.rrs_gdb.specs.declared.link.Link.{Link}
use Rattle.rrs_gdb.specs.declared.link.Received.{Received}
use Rattle.rrs_gdb.specs.Packets.{before, behind, since_last, AskedAgain, ComesTo, IsFrame, IsMeaning, SentAgain, Skipped, Taken, Waits}
use Rattle.rrs_gdb.specs.Shown.{Ends, Exchanges, Requests}
use Rattle.rrs_gdb.proofs.OutputLemmas.{appends_both, appends_none}

-- ---- what stands after the last of some bytes

since_by : (at : ℕ) (is : Bool) (b : ℕ) (first later first' later' : List ℕ)
    → first' ≡ (if b == at then [] else first ++ b ∷ []) → later' ≡ (if b == at then [] else later ++ b ∷ [])
    → (if is then first' else later') ≡ (if b == at then [] else (if is then first else later) ++ b ∷ [])
since_by at true b first later first' later' one other = one
since_by at false b first later first' later' one other = other

since_one_more : (at : ℕ) (held xs : List ℕ) (b : ℕ)
    → since_last at held (xs ++ b ∷ []) ≡ (if b == at then [] else since_last at held xs ++ b ∷ [])
since_one_more at held [] b = refl
since_one_more at held (x ∷ xs) b =
    since_by at (x == at) b (since_last at [] xs) (since_last at (held ++ x ∷ []) xs) _ _
    (since_one_more at [] xs b) (since_one_more at (held ++ x ∷ []) xs b)

-- ---- what stands before one

-- a list that begins with what is no such byte
before_by : (is : Bool) (x : ℕ) (rest xs : List ℕ) → (if is then [] else x ∷ rest) ≡ x ∷ xs
    → (is ≡ false) × (rest ≡ xs)
before_by true x rest xs same = absurd (grind (arith, same))
before_by false x rest xs same = (refl, cc same)

before_one_more : (at : ℕ) (xs : List ℕ) (b : ℕ) → before at xs ≡ xs → b ≢ at → before at (xs ++ b ∷ []) ≡ xs ++ b ∷ []
before_one_more at [] b all other =
    let is : (b == at) ≡ false = grind (arith, nat_tests) in
    rw is refl
before_one_more at (x ∷ xs) b all other =
    let cases = before_by (x == at) x (before at xs) xs all in
    rw cases.0 (ap (λ (ys : List ℕ). x ∷ ys) (before_one_more at xs b cases.1 other))

before_whole : (at : ℕ) (xs ys : List ℕ) → before at xs ≡ xs → before at (xs ++ at ∷ ys) ≡ xs
before_whole at [] ys all =
    let is : (at == at) ≡ true = grind (arith, nat_tests) in
    rw is refl
before_whole at (x ∷ xs) ys all =
    let cases = before_by (x == at) x (before at xs) xs all in
    rw cases.0 (ap (λ (zs : List ℕ). x ∷ zs) (before_whole at xs ys cases.1))

-- ---- a byte more of a packet

-- the bytes that were read, of which so many are kept, and whether there were more
pub record HasRead (old new : Option (List ℕ)) (kept : List ℕ) (is_long : Bool) : Type 0 where
  pub bytes : List ℕ
  pub consumed : Consumes old new bytes
  pub up_to : before 35 bytes ≡ bytes
  pub first : kept ≡ take 16384 (since_last 36 [] bytes)
  pub more : is_long ≡ nat_lt 16384 (length (since_last 36 [] bytes))

pub has_read_none : (old : Option (List ℕ)) → HasRead old old [] false
has_read_none old = record {
  bytes = [];
  consumed = Consumes-nil old;
  up_to = refl;
  first = refl;
  more = refl;
}

has_read_more : (old mid new : Option (List ℕ)) (kept kept' : List ℕ) (is_long is_long' : Bool) (b : ℕ)
    → (so_far : HasRead old mid kept is_long) → Consumes mid new (b ∷ []) → b ≢ 35
    → (kept' ≡ take 16384 (if b == 36 then [] else since_last 36 [] so_far.bytes ++ b ∷ []))
    → (is_long' ≡ nat_lt 16384 (length (if b == 36 then [] else since_last 36 [] so_far.bytes ++ b ∷ [])))
    → HasRead old new kept' is_long'
has_read_more old mid new kept kept' is_long is_long' b so_far one other first more =
    let same = sym (since_one_more 36 [] so_far.bytes b) in
    record {
      bytes = so_far.bytes ++ b ∷ [];
      consumed = Consumes-trans old mid new so_far.bytes (b ∷ []) so_far.consumed one;
      up_to = before_one_more 35 so_far.bytes b so_far.up_to other;
      first = first ∙ ap (λ (xs : List ℕ). take 16384 xs) same;
      more = more ∙ ap (λ (xs : List ℕ). nat_lt 16384 (length xs)) same;
    }

-- a `$`
pub has_read_dollar : (old mid new : Option (List ℕ)) (kept : List ℕ) (is_long : Bool)
    → HasRead old mid kept is_long → Consumes mid new (36 ∷ []) → HasRead old new [] false
has_read_dollar old mid new kept is_long so_far one =
    has_read_more old mid new kept [] is_long false 36 so_far one (λ is. absurd (omega (arith, is))) refl refl

not_dollar : (b : ℕ) (P : List ℕ) → b ≢ 36 → (if b == 36 then [] else P) ≡ P
not_dollar b P other =
    let is : (b == 36) ≡ false = grind (arith, nat_tests) in
    rw is refl

-- a byte that there is room for
pub has_read_kept : (old mid new : Option (List ℕ)) (kept : List ℕ) (is_long : Bool) (b : ℕ)
    → HasRead old mid kept is_long → Consumes mid new (b ∷ []) → b ≢ 35 → b ≢ 36 → length kept < 16384
    → HasRead old new (kept ++ b ∷ []) is_long
has_read_kept old mid new kept is_long b so_far one other no_dollar room =
    let since = since_last 36 [] so_far.bytes in
    let few : length since < 16384 =
    let cut = length-take 16384 since in omega (arith, cut, room, ap (λ (xs : List ℕ). length xs) so_far.first) in
    let whole : kept ≡ since = so_far.first ∙ take_all 16384 since (omega (arith, few)) in
    let longer = length-append since (b ∷ []) in
    let is = not_dollar b (since ++ b ∷ []) no_dollar in
    has_read_more old mid new kept (kept ++ b ∷ []) is_long is_long b so_far one other
    (ap (λ (xs : List ℕ). xs ++ b ∷ []) whole
    ∙ sym (take_all 16384 (since ++ b ∷ []) (omega (arith, longer, few)))
    ∙ ap (λ (xs : List ℕ). take 16384 xs) (sym is))
    (so_far.more ∙ grind (arith, nat_tests, longer, few, is))

-- a byte that there is no room for
pub has_read_long : (old mid new : Option (List ℕ)) (kept : List ℕ) (is_long : Bool) (b : ℕ)
    → HasRead old mid kept is_long → Consumes mid new (b ∷ []) → b ≢ 35 → b ≢ 36 → 16384 ≤ length kept
    → HasRead old new kept true
has_read_long old mid new kept is_long b so_far one other no_dollar full =
    let since = since_last 36 [] so_far.bytes in
    let many : 16384 ≤ length since =
    let cut = length-take 16384 since in omega (arith, cut, full, ap (λ (xs : List ℕ). length xs) so_far.first) in
    let longer = length-append since (b ∷ []) in
    let is = not_dollar b (since ++ b ∷ []) no_dollar in
    has_read_more old mid new kept kept is_long true b so_far one other
    (so_far.first ∙ sym (take-append-le 16384 since (b ∷ []) many)
    ∙ ap (λ (xs : List ℕ). take 16384 xs) (sym is))
    (grind (arith, nat_tests, longer, many, is))

-- the `#`
pub has_read_whole : (old mid new : Option (List ℕ)) (kept : List ℕ) (is_long : Bool) (b : ℕ)
    → HasRead old mid kept is_long → Consumes mid new (b ∷ []) → b ≡ 35
    → (bytes : List ℕ) × Consumes old new (bytes ++ 35 ∷ []) × (before 35 bytes ≡ bytes)
    × (kept ≡ take 16384 (since_last 36 [] bytes)) × (is_long ≡ nat_lt 16384 (length (since_last 36 [] bytes)))
has_read_whole old mid new kept is_long b so_far one is = (
  so_far.bytes,
  Consumes-trans old mid new so_far.bytes (35 ∷ []) so_far.consumed (subst (λ (x : ℕ). Consumes mid new (x ∷ [])) is one),
  so_far.up_to,
  so_far.first,
  so_far.more,
)

-- ---- a packet

pub frame_read : (old mid new : Option (List ℕ)) (bytes digits : List ℕ) (frame : Frame)
    → Consumes old mid (bytes ++ 35 ∷ []) → before 35 bytes ≡ bytes
    → frame.bytes.items ≡ take 16384 (since_last 36 [] bytes)
    → frame.is_long ≡ nat_lt 16384 (length (since_last 36 [] bytes))
    → Consumes mid new digits → frame.digits ≡ digits
    → (read : List ℕ) × Consumes old new read × IsFrame read frame
frame_read old mid new bytes digits frame first up_to kept long last same =
    let whole = before_whole 35 bytes digits up_to in (
      bytes ++ 35 ∷ digits,
      subst (λ (xs : List ℕ). Consumes old new xs) (append_assoc bytes (35 ∷ []) digits)
          (Consumes-trans old mid new (bytes ++ 35 ∷ []) digits first last),
      record {
        all = ap (λ (xs : List ℕ). bytes ++ 35 ∷ xs) (sym same) ∙ ap (λ (xs : List ℕ). xs ++ 35 ∷ frame.digits) (sym whole);
        kept = kept ∙ ap (λ (xs : List ℕ). take 16384 (since_last 36 [] xs)) (sym whole);
        long = long ∙ ap (λ (xs : List ℕ). nat_lt 16384 (length (since_last 36 [] xs))) (sym whole);
      },
    )

-- the acknowledgment of a packet, or of one that is asked for again
abbrev pub acknowledgment : Bool → Option Received → List ℕ
acknowledgment false found = []
acknowledgment true None = codes "-"
acknowledgment true (Some received) = codes "+"

pub packet_comes_to : (acknowledges : Bool) (last read : List ℕ) (frame : Frame) (found : Option Received)
    → IsFrame read frame → IsMeaning acknowledges frame found
    → ComesTo acknowledges last found (36 ∷ read) (acknowledgment acknowledges found)
packet_comes_to true last read frame None is meant = λ received rest more later. AskedAgain read rest more frame is meant later
packet_comes_to false last read frame None is (short, acknowledges, sum) = absurd (grind (arith, acknowledges))
packet_comes_to true last read frame (Some received) is meant = Taken read frame is meant
packet_comes_to false last read frame (Some received) is meant = Taken read frame is meant

acknowledged : {W : Type 0} (contents : W → Option (List ℕ)) (old new : W) (flag : Bool) (found : Option Received)
    → (flag ≡ false → new ≡ old)
    → (flag ≡ true → is_some found ≡ true → Appends (contents old) (contents new) (codes "+"))
    → (flag ≡ true → is_some found ≡ false → Appends (contents old) (contents new) (codes "-"))
    → Appends (contents old) (contents new) (acknowledgment flag found)
acknowledged contents old new false found silent good bad =
    subst (λ w. Appends (contents old) (contents w) []) (sym (silent refl)) (appends_none (contents old))
acknowledged contents old new true None silent good bad = bad refl refl
acknowledged contents old new true (Some received) silent good bad = good refl refl

pub exchanges_packet : {R W : Type 0} (remaining : R → Option (List ℕ)) (contents : W → Option (List ℕ))
    (old new : Link R W) (reader : R) (frame : Frame) (found : Option Received)
    → (read : List ℕ) × Consumes (remaining old.reader) (remaining reader) read × IsFrame read frame
    → IsMeaning old.acknowledges frame found → new.reader ≡ reader
    → (old.acknowledges ≡ false → new.writer ≡ old.writer)
    → (old.acknowledges ≡ true → is_some found ≡ true → Appends (contents old.writer) (contents new.writer) (codes "+"))
    → (old.acknowledges ≡ true → is_some found ≡ false → Appends (contents old.writer) (contents new.writer) (codes "-"))
    → Exchanges remaining contents old new (λ read written. ComesTo old.acknowledges old.last.items found (36 ∷ read) written)
exchanges_packet remaining contents old new reader frame found (read, consumed, is) meant same silent good bad = record {
  read = read;
  written = acknowledgment old.acknowledges found;
  consumed = subst (λ r. Consumes (remaining old.reader) (remaining r) read) (sym same) consumed;
  appended = acknowledged contents old.writer new.writer old.acknowledges found silent good bad;
  meant = packet_comes_to old.acknowledges old.last.items read frame found is meant;
}

-- ---- between packets

pub exchanges_none : {R W : Type 0} (remaining : R → Option (List ℕ)) (contents : W → Option (List ℕ)) (link : Link R W)
    (acknowledges : Bool) (last : List ℕ)
    → Exchanges remaining contents link link (ComesTo acknowledges last None)
exchanges_none remaining contents link acknowledges last = record {
  read = [];
  written = [];
  consumed = Consumes-nil (remaining link.reader);
  appended = appends_none (contents link.writer);
  meant = λ received rest more later. later;
}

-- a byte that begins no packet, and what is written for it
pub exchanges_byte : {R W : Type 0} (remaining : R → Option (List ℕ)) (contents : W → Option (List ℕ))
    (old new : Link R W) (acknowledges : Bool) (last : List ℕ) (b : ℕ)
    → new.reader ≡ old.reader
    → (b ≡ 45) × Appends (contents old.writer) (contents new.writer) last
    ⊎ (b ≢ 36) × (b ≢ 45) × (new.writer ≡ old.writer)
    → Exchanges remaining contents old new (λ read written. ComesTo acknowledges last None (b ∷ read) written)
exchanges_byte remaining contents old new acknowledges last b same (inl (is, sent)) = record {
  read = [];
  written = last;
  consumed = subst (λ r. Consumes (remaining old.reader) (remaining r) []) (sym same) (Consumes-nil (remaining old.reader));
  appended = sent;
  meant = λ received rest more later. rw is (SentAgain rest more later);
}
exchanges_byte remaining contents old new acknowledges last b same (inr (no_packet, none, kept)) = record {
  read = [];
  written = [];
  consumed = subst (λ r. Consumes (remaining old.reader) (remaining r) []) (sym same) (Consumes-nil (remaining old.reader));
  appended = subst (λ w. Appends (contents old.writer) (contents w) []) (sym kept) (appends_none (contents old.writer));
  meant = λ received rest more later. Skipped b rest more no_packet none later;
}

-- what comes of more bytes after such
comes_after : (acknowledges : Bool) (last : List ℕ) (found : Option Received) (read written rest more : List ℕ)
    → ComesTo acknowledges last None read written → ComesTo acknowledges last found rest more
    → ComesTo acknowledges last found (read ++ rest) (written ++ more)
comes_after acknowledges last None read written rest more first later = λ received others most after.
    rw (append_assoc read rest others, append_assoc written more most)
    (first received (rest ++ others) (more ++ most) (later received others most after))
comes_after acknowledges last (Some received) read written rest more first later = first received rest more later

exchanges_then : {R W : Type 0} (remaining : R → Option (List ℕ)) (contents : W → Option (List ℕ))
    (First Later IsMeant : List ℕ → List ℕ → Type 0) (old mid new : Link R W) (reader : R) (b : ℕ)
    → (first : Exchanges remaining contents old mid First)
    → Consumes (remaining mid.reader) (remaining reader) (b ∷ [])
    → (later : Exchanges remaining contents (record mid { reader = reader }) new Later)
    → IsMeant (first.read ++ b ∷ later.read) (first.written ++ later.written)
    → Exchanges remaining contents old new IsMeant
exchanges_then remaining contents First Later IsMeant old mid new reader b first one later meant = record {
  read = first.read ++ b ∷ later.read;
  written = first.written ++ later.written;
  consumed = Consumes-trans (remaining old.reader) (remaining mid.reader) (remaining new.reader) first.read (b ∷ later.read)
      first.consumed (Consumes-trans (remaining mid.reader) (remaining reader) (remaining new.reader) (b ∷ []) later.read
      one later.consumed);
  appended = appends_both (contents old.writer) (contents mid.writer) (contents new.writer) first.written later.written
      first.appended later.appended;
  meant = meant;
}

pub exchanges_both : {R W : Type 0} (remaining : R → Option (List ℕ)) (contents : W → Option (List ℕ))
    (old mid new : Link R W) (reader : R) (acknowledges flag : Bool) (last kept : List ℕ) (found : Option Received) (b : ℕ)
    → Exchanges remaining contents old mid (ComesTo acknowledges last None)
    → Consumes (remaining mid.reader) (remaining reader) (b ∷ []) → flag ≡ acknowledges → kept ≡ last
    → Exchanges remaining contents (record mid { reader = reader }) new (λ read written. ComesTo flag kept found (b ∷ read) written)
    → Exchanges remaining contents old new (ComesTo acknowledges last found)
exchanges_both remaining contents old mid new reader acknowledges flag last kept found b first one same_flag same_last later =
    exchanges_then remaining contents _ _ _ old mid new reader b first one later
    (comes_after acknowledges last found first.read first.written (b ∷ later.read) later.written first.meant
    (subst (λ (xs : List ℕ). ComesTo acknowledges xs found (b ∷ later.read) later.written) same_last
    (subst (λ (is : Bool). ComesTo is kept found (b ∷ later.read) later.written) same_flag later.meant)))

-- ---- where the input ends

behind_none : (at : ℕ) (xs : List ℕ) → before at xs ≡ xs → behind at xs ≡ []
behind_none at [] all = refl
behind_none at (x ∷ xs) all =
    let cases = before_by (x == at) x (before at xs) xs all in
    rw cases.0 (behind_none at xs cases.1)

behind_whole : (at : ℕ) (xs ys : List ℕ) → before at xs ≡ xs → behind at (xs ++ at ∷ ys) ≡ ys
behind_whole at [] ys all =
    let is : (at == at) ≡ true = grind (arith, nat_tests) in
    rw is refl
behind_whole at (x ∷ xs) ys all =
    let cases = before_by (x == at) x (before at xs) xs all in
    rw cases.0 (behind_whole at xs ys cases.1)

-- no `#` was read
pub has_read_part : (old mid new : Option (List ℕ)) (kept : List ℕ) (is_long : Bool)
    → HasRead old mid kept is_long → Keeps mid new
    → (bytes : List ℕ) × Consumes old new bytes × (before 35 bytes ≡ bytes)
has_read_part old mid new kept is_long so_far same =
    (so_far.bytes, Consumes-kept old mid new so_far.bytes so_far.consumed same, so_far.up_to)

pub begun_bytes : (old new : Option (List ℕ)) → (bytes : List ℕ) × Consumes old new bytes × (before 35 bytes ≡ bytes)
    → (read : List ℕ) × Consumes old new read × (length (behind 35 read) < 2)
begun_bytes old new (bytes, consumed, up_to) = (bytes, consumed, rw (behind_none 35 bytes up_to) (lit< tt))

pub begun_digits : (old mid new : Option (List ℕ)) (bytes : List ℕ) → Consumes old mid (bytes ++ 35 ∷ [])
    → before 35 bytes ≡ bytes → (read : List ℕ) × (length read < 2) × Consumes mid new read
    → (read : List ℕ) × Consumes old new read × (length (behind 35 read) < 2)
begun_digits old mid new bytes first up_to (digits, few, last) = (
  bytes ++ 35 ∷ digits,
  subst (λ (xs : List ℕ). Consumes old new xs) (append_assoc bytes (35 ∷ []) digits)
      (Consumes-trans old mid new (bytes ++ 35 ∷ []) digits first last),
  rw (behind_whole 35 bytes digits up_to) few,
)

-- a packet that has begun
pub exchanges_begun : {R W : Type 0} (remaining : R → Option (List ℕ)) (contents : W → Option (List ℕ))
    (old : Link R W) (reader : R) (acknowledges : Bool) (last : List ℕ)
    → (read : List ℕ) × Consumes (remaining old.reader) (remaining reader) read × (length (behind 35 read) < 2)
    → Exchanges remaining contents old (record old { reader = reader })
    (λ read written. Waits acknowledges last (36 ∷ read) written)
exchanges_begun remaining contents old reader acknowledges last (read, consumed, few) = record {
  read = read;
  written = [];
  consumed = consumed;
  appended = appends_none (contents old.writer);
  meant = record {
    past = [];
    begun = 36 ∷ read;
    all = refl;
    none = λ received rest more later. later;
    no_packet = (refl, few);
  };
}

-- nothing has
pub exchanges_end : {R W : Type 0} (remaining : R → Option (List ℕ)) (contents : W → Option (List ℕ))
    (old mid : Link R W) (reader : R) (acknowledges : Bool) (last : List ℕ)
    → Exchanges remaining contents old mid (ComesTo acknowledges last None)
    → Keeps (remaining mid.reader) (remaining reader)
    → Exchanges remaining contents old (record mid { reader = reader }) (Waits acknowledges last)
exchanges_end remaining contents old mid reader acknowledges last so_far same = record {
  read = so_far.read;
  written = so_far.written;
  consumed = Consumes-kept (remaining old.reader) (remaining mid.reader) (remaining reader) so_far.read so_far.consumed same;
  appended = so_far.appended;
  meant = record {
    past = so_far.read;
    begun = [];
    all = sym (append-nil so_far.read);
    none = so_far.meant;
    no_packet = tt;
  };
}

waits_after : (acknowledges : Bool) (last read written rest more : List ℕ) → ComesTo acknowledges last None read written
    → Waits acknowledges last rest more → Waits acknowledges last (read ++ rest) (written ++ more)
waits_after acknowledges last read written rest more first later = record {
  past = read ++ later.past;
  begun = later.begun;
  all = ap (λ (xs : List ℕ). read ++ xs) later.all ∙ sym (append_assoc read later.past later.begun);
  none = comes_after acknowledges last None read written later.past more first later.none;
  no_packet = later.no_packet;
}

pub exchanges_waits : {R W : Type 0} (remaining : R → Option (List ℕ)) (contents : W → Option (List ℕ))
    (old mid new : Link R W) (reader : R) (acknowledges flag : Bool) (last kept : List ℕ) (b : ℕ)
    → Exchanges remaining contents old mid (ComesTo acknowledges last None)
    → Consumes (remaining mid.reader) (remaining reader) (b ∷ []) → flag ≡ acknowledges → kept ≡ last
    → Exchanges remaining contents (record mid { reader = reader }) new (λ read written. Waits flag kept (b ∷ read) written)
    → Exchanges remaining contents old new (Waits acknowledges last)
exchanges_waits remaining contents old mid new reader acknowledges flag last kept b first one same_flag same_last later =
    exchanges_then remaining contents _ _ _ old mid new reader b first one later
    (waits_after acknowledges last first.read first.written (b ∷ later.read) later.written first.meant
    (subst (λ (xs : List ℕ). Waits acknowledges xs (b ∷ later.read) later.written) same_last
    (subst (λ (is : Bool). Waits is kept (b ∷ later.read) later.written) same_flag later.meant)))

-- nothing is asked
pub requests_none : {R W : Type 0} (remaining : R → Option (List ℕ)) (contents : W → Option (List ℕ)) (link : Link R W)
    → Requests remaining contents None link link
requests_none remaining contents link =
    let here = exchanges_none remaining contents link link.acknowledges link.last.items in
    Ends link link (exchanges_end remaining contents link link link.reader link.acknowledges link.last.items here
    (Keeps-refl (remaining link.reader)))
