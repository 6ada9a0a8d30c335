-- What is sent of output.
use Rattle.std.proofs.Common.{◌≡◌, ℕ, zero, suc, ◌+◌, ◌-◌, ◌^◌, ◌<◌, ◌≤◌, List, [], ◌∷◌, ◌++◌, Option, None, Some, MatchOption, length, drop, sym, subst, ap, ◌∙◌, arith, append-nil, append_assoc}
use Rattle.std.proofs.lemmas.List.{drop_all}
use Rattle.std.specs.Io.KnownBytes.{Appends}
use Rattle.rrs_gdb.specs.declared.link.Link.{Link}
use Rattle.rrs_lib.specs.Accesses.{Access}
use Rattle.rrs_lib.specs.Machine.{State}
use Rattle.rrs_linux.specs.Recording.{Recording, Records}
use Rattle.rrs_history.specs.Calls.{ServesCall}
use Rattle.rrs_gdb.specs.declared.state.Stop.{Stop}
use Rattle.rrs_gdb.specs.declared.state.Stop.TheVariants.{Signal, Entry}
use Rattle.rrs_gdb.specs.Sessions.{Around, Asked, AtEntry, AtExit, IsAfterCall, PrintsCall, StopsBefore, stopped_at}
use Rattle.rrs_gdb.specs.Shown.{SentAs, Nothing, Part, Prints, output_packet}

-- ---- what a writer holds

pub appends_none : (old : Option (List ℕ)) → Appends old old []
appends_none None = tt
appends_none (Some xs) = sym (append-nil xs)

pub appends_both : (old mid new : Option (List ℕ)) (xs ys : List ℕ) → Appends old mid xs → Appends mid new ys
    → Appends old new (xs ++ ys)
appends_both None mid new xs ys first last = tt
appends_both (Some os) None new xs ys first last = absurd first
appends_both (Some os) (Some ms) None xs ys first last = absurd last
appends_both (Some os) (Some ms) (Some ns) xs ys first last =
    last ∙ ap (λ (zs : List ℕ). zs ++ ys) first ∙ append_assoc os xs ys

-- ---- output

sent_alone : (part : List ℕ) → length part ≤ 2048 → SentAs part (output_packet part)
sent_alone part few =
    subst (λ (xs : List ℕ). SentAs xs (output_packet part)) (append-nil part)
    (subst (λ (xs : List ℕ). SentAs (part ++ []) xs) (append-nil (output_packet part)) (Part part [] [] few Nothing))

pub sent_both : (xs ys sent more : List ℕ) → SentAs xs sent → SentAs ys more → SentAs (xs ++ ys) (sent ++ more)
sent_both xs ys sent more Nothing last = last
sent_both xs ys sent more (Part part rest others few first) last =
    subst (λ (zs : List ℕ). SentAs zs ((output_packet part ++ others) ++ more)) (sym (append_assoc part rest ys))
    (subst (λ (zs : List ℕ). SentAs (part ++ (rest ++ ys)) zs) (sym (append_assoc (output_packet part) others more))
    (Part part (rest ++ ys) (others ++ more) few (sent_both rest ys others more first last)))

pub prints_none : {R W : Type 0} (contents : W → Option (List ℕ)) (link : Link R W) → Prints contents link link []
prints_none contents link = ([], Nothing, appends_none (contents link.writer))

pub prints_both : {R W : Type 0} (contents : W → Option (List ℕ)) (old mid new : Link R W) (xs ys : List ℕ)
    → Prints contents old mid xs → Prints contents mid new ys → Prints contents old new (xs ++ ys)
prints_both contents old mid new xs ys (sent, are, first) (more, others, last) = (
  sent ++ more,
  sent_both xs ys sent more are others,
  appends_both (contents old.writer) (contents mid.writer) (contents new.writer) sent more first last,
)

pub prints_part : {R W : Type 0} (contents : W → Option (List ℕ)) (old mid new : Link R W) (xs part : List ℕ)
    → length part ≤ 2048 → Prints contents old mid xs
    → Appends (contents mid.writer) (contents new.writer) (output_packet part) → Prints contents old new (xs ++ part)
prints_part contents old mid new xs part few first last =
    prints_both contents old mid new xs part first (output_packet part, sent_alone part few, last)

-- nothing of some bytes is new
pub prints_known : {R W : Type 0} (contents : W → Option (List ℕ)) (link : Link R W) (known : ℕ) (bytes : List ℕ)
    → length bytes ≤ known → Prints contents link link (drop known bytes)
prints_known contents link known bytes all =
    subst (λ (xs : List ℕ). Prints contents link link xs) (sym (drop_all known bytes all)) (prints_none contents link)

-- what is new of bytes and of others after them
drop_both : (known : ℕ) (xs ys : List ℕ) → drop known (xs ++ ys) ≡ drop known xs ++ drop (known - length xs) ys
drop_both zero xs ys =
    let none : 0 ≡ 0 - length xs = omega arith in
    ap (λ (k : ℕ). xs ++ drop k ys) none
drop_both (suc n) [] ys =
    let all : suc n ≡ suc n - 0 = omega arith in
    ap (λ (k : ℕ). drop k ys) all
drop_both (suc n) (x ∷ xs) ys =
    let less : n - length xs ≡ suc n - suc (length xs) = omega arith in
    drop_both n xs ys ∙ ap (λ (k : ℕ). drop n xs ++ drop k ys) less

pub prints_new : {R W : Type 0} (contents : W → Option (List ℕ)) (old mid new : Link R W) (known left : ℕ)
    (xs ys : List ℕ) → Prints contents old mid (drop known xs) → left ≡ known - length xs
    → Prints contents mid new (drop left ys) → Prints contents old new (drop known (xs ++ ys))
prints_new contents old mid new known left xs ys first is last =
    subst (λ (zs : List ℕ). Prints contents old new zs) (sym (drop_both known xs ys))
    (prints_both contents old mid new (drop known xs) (drop (known - length xs) ys) first
    (subst (λ (n : ℕ). Prints contents mid new (drop n ys)) is last))

-- ---- what a call prints

pub printed_by_all : (o : Option Stop) (P : Type 0) → P → MatchOption o P (λ at. IsAfterCall at → P)
printed_by_all None P printed = printed
printed_by_all (Some at) P printed = λ _. printed

at_entry : (at : Stop) (number : ℕ) → at ≡ Entry number → ¬ IsAfterCall at
at_entry at number same is = absurd (subst IsAfterCall same is)

at_signal : (at : Stop) (signal : ℕ) → at ≡ Signal signal → ¬ IsAfterCall at
at_signal at signal same is = absurd (subst IsAfterCall same is)

-- a stop before a call is none after one
pub none_before : (asked : Asked) (a b : Around) (number : ℕ) (at : Stop)
    → StopsBefore asked a number (stopped_at b at) → ¬ IsAfterCall at
none_before asked a b number at (AtEntry caught entered same) =
    at_entry at number (ap (λ (x : Around). x.stop) same)
none_before asked a b number at (AtExit exit stops told same) = at_signal at 5 (ap (λ (x : Around). x.stop) same)

pub prints_call : {R W : Type 0} (contents : W → Option (List ℕ)) (made sent made' sent' : ℕ)
    (end : Option ℕ) (e after : Recording) (m t : State) (accesses : List Access) (old new : Link R W) → made' ≡ made → sent' ≡ sent
    → ServesCall Records e m end m.pc after t accesses
    → (made' + length after.output.items + length after.errors.items < 2 ^ 64
    → Prints contents old new (drop (sent' - made') (after.output.items ++ after.errors.items)))
    → PrintsCall contents made sent e m t old new
prints_call contents made sent made' sent' end e after m t accesses old new same same' served prints = record {
  end = end;
  after = after;
  accesses = accesses;
  served = served;
  prints = λ small. subst (λ (n : ℕ). Prints contents old new (drop (n - made) (after.output.items ++ after.errors.items))) same'
      (subst (λ (n : ℕ). Prints contents old new (drop (sent' - n) (after.output.items ++ after.errors.items))) same
      (prints (omega (arith, same, small))));
}
