use Rattle.std.proofs.Common.{◌≡◌, ℕ, suc, ◌+◌, ◌-◌, ◌*◌, ◌≤◌, List, ◌++◌, length, take, drop, refl, sym, ap, ◌∙◌, add-one, arith}
use Rattle.std.proofs.lemmas.Slice.{take-put_mid}
use Rattle.std.proofs.lemmas.List.{length-append, length-drop, length-take-le, take_all}
use Rattle.std.specs.Int.{to_le_bytes, w64}
use borrow.Rule.Slice.PartMut.{put_mid}
use Rattle.rrs_linux.specs.Random.{next_state, number_of, random_bytes, state_after}
use Rattle.rrs_linux.proofs.random.next_bytes.Goals as goal

-- the state after one number more
state_more : (seed n state state' : ℕ) → state ≡ state_after seed n → state' ≡ next_state state
    → state' ≡ state_after seed (n + 1)
unfolding state_after
state_more seed n state state' is next = rw add-one (next ∙ ap next_state is)

-- the bytes of one number more
bytes_more : (seed n k state number : ℕ) (bytes part : List ℕ) → take (8 * n) bytes ≡ random_bytes seed n
    → 8 * n + 8 ≤ length bytes → part ≡ to_le_bytes w64 number → length part ≡ 8
    → number ≡ number_of state → state ≡ state_after seed (n + 1)
    → take (8 * (n + 1)) (put_mid (8 * n) k bytes part) ≡ random_bytes seed (n + 1)
unfolding random_bytes
bytes_more seed n k state number bytes part so_far room is long of reached =
    let cut = take-put_mid (8 * n) k bytes part (8 * (n + 1)) (omega (arith, long)) (omega (arith, room)) in
    let last : part ≡ to_le_bytes w64 (number_of (state_after seed (suc n))) =
    is ∙ ap (to_le_bytes w64) (of ∙ ap number_of (reached ∙ ap (state_after seed) (add-one n))) in
    cut ∙ ap (λ l. l ++ part) so_far ∙ ap (λ l. random_bytes seed n ++ l) last
    ∙ ap (random_bytes seed) (sym (add-one n))

-- bytes are written over as many
as_long : (a k : ℕ) (bytes part : List ℕ) → length bytes ≡ 256 → a + 8 ≤ 256 → k ≡ 8 → length part ≡ 8
    → length (put_mid a k bytes part) ≡ 256
as_long a k bytes part whole room eight long =
    let front : length (take a bytes) ≡ a = length-take-le a bytes (omega (arith, whole, room)) in
    let rest : length (drop k (drop a bytes)) ≡ length (drop a bytes) - k = length-drop k (drop a bytes) in
    let behind : length (drop a bytes) ≡ length bytes - a = length-drop a bytes in
    length-append (take a bytes) (part ++ drop k (drop a bytes))
    ∙ omega (arith, length-append part (drop k (drop a bytes)), front, rest, behind, whole, room, eight, long)

pub loop-index-init : goal.loop-index-init
unfolding state_after random_bytes
loop-index-init c = record { state = refl; bytes = refl; long = refl }

pub loop-index-preserved : goal.loop-index-preserved
loop-index-preserved c =
    let so_far = c.loop-index.invariant in
    let number = c.next_number-number in
    let reached = state_more _ c.loop-index.index c.loop-index.state number.new.state so_far.state
    number.ensures.moved_on in
    let copied = c.copy_from_slice.ensures.after ∙ c.to_le_bytes.ensures in
    let room : 8 * c.loop-index.index + 8 ≤ length c.loop-index.bytes =
    omega (arith, so_far.long, c.loop-index-test.true) in
    record {
      state = reached;
      bytes = bytes_more _ c.loop-index.index _ number.new.state number.result c.loop-index.bytes
          c.copy_from_slice.new.self so_far.bytes room copied (ap length copied) number.ensures.number reached;
      long = as_long _ _ c.loop-index.bytes c.copy_from_slice.new.self so_far.long (omega (arith, c.loop-index-test.true))
          (omega arith) (ap length copied);
    }

pub returns-clause-bytes : goal.returns-clause-bytes
returns-clause-bytes c =
    let so_far = c.loop-index.invariant in
    let all : c.loop-index.index ≡ 32 = omega (arith, c.loop-index-test.false, c.loop-index.auto.index-end) in
    let long : length c.loop-index.bytes ≤ 8 * c.loop-index.index = omega (arith, all, so_far.long) in
    sym (take_all (8 * c.loop-index.index) c.loop-index.bytes long) ∙ so_far.bytes ∙ ap (random_bytes _) all
