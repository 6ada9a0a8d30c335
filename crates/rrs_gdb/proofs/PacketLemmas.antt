-- A payload that is escaped byte by byte, and unescaped again.
use Rattle.std.proofs.Common.{◌≡◌, ℕ, zero, suc, ◌+◌, ◌<◌, ◌||◌, drop, get_or, add-one, drop-cons, slice_index, nat_eq, Bool, true, false, ◌⊎◌, List, [], ◌∷◌, ◌++◌, length, Option, Some, None, option_map, Ok, refl, sym, ap, ◌∙◌, inl, inr, append_assoc, append-nil, ◌≤◌, arith}
use Rattle.std.proofs.lemmas.Bool.Decides.{nat_tests}
use Rattle.std.proofs.lemmas.List.{drop_all}
use Rattle.hex.specs.Hex.{encode_with, decode_sized, IsBytes}
use Rattle.hex.proofs.HexLemmas.{decode_sized-encode_lower}
use Rattle.std.proofs.lemmas.Option.{same_Some}
use Rattle.rrs_gdb.specs.declared.framing.PacketError.{PacketError}
use Rattle.rrs_gdb.specs.declared.framing.PacketError.TheVariants.{OutOfMemory, CutOff}
use Rattle.rrs_gdb.specs.Packets.{checksum, HasSum, digits_of, is_special, turned, escaped_byte, escaped, unescaped_from, unescaped}

pub escaped-append : (xs ys : List ℕ) → escaped (xs ++ ys) ≡ escaped xs ++ escaped ys
escaped-append [] ys = refl
escaped-append (b ∷ xs) ys = ap (λ r. escaped_byte b ++ r) (escaped-append xs ys) ∙ sym (append_assoc (escaped_byte b) (escaped xs) (escaped ys))

pub escaped-one : (b : ℕ) → escaped (b ∷ []) ≡ escaped_byte b
escaped-one b = grind arith

or_cases : (p q : Bool) → (p || q) ≡ true → (p ≡ true) ⊎ (q ≡ true)
or_cases true q h = inl refl
or_cases false q h = inr h

same_number : (b c : ℕ) → nat_eq b c ≡ true → b ≡ c
same_number b c h = grind (arith, nat_tests)

turned_at : (b c : ℕ) → nat_eq b c ≡ true → turned (turned c) ≡ c → turned (turned b) ≡ b
turned_at b c h e = rw (same_number b c h) e

-- a special byte is turned twice to itself
pub turned_twice : (b : ℕ) → is_special b ≡ true → turned (turned b) ≡ b
turned_twice b h =
    elim (or_cases _ (nat_eq b 125) h) [
      | inr e ↦ turned_at b 125 e refl
      | inl h' ↦ elim (or_cases _ (nat_eq b 42) h') [
        | inr e ↦ turned_at b 42 e refl
        | inl h'' ↦ elim (or_cases (nat_eq b 35) (nat_eq b 36) h'') [
          | inr e ↦ turned_at b 36 e refl
          | inl e ↦ turned_at b 35 e refl
        ]
      ]
    ]

-- what an escaped byte in front stands for
escaped_in_front : (b : ℕ) (rest : List ℕ) (special : Bool) → is_special b ≡ special
    → unescaped_from false (escaped_byte b ++ rest) ≡ option_map (λ xs. b ∷ xs) (unescaped_from false rest)
escaped_in_front b rest true h = rw (h, turned_twice b h) refl
escaped_in_front b rest false h =
    let plain : nat_eq b 125 ≡ false = grind (arith, nat_tests) in
    rw (h, plain) refl

-- what is escaped stands for its payload
pub unescaped-escaped : (payload : List ℕ) → unescaped (escaped payload) ≡ Some payload
unescaped-escaped [] = refl
unescaped-escaped (b ∷ bs) =
    escaped_in_front b (escaped bs) (is_special b) refl ∙ ap (option_map (λ xs. b ∷ xs)) (unescaped-escaped bs)

-- a byte goes to the end of what was taken
pub moved : (p : List ℕ) (x : ℕ) (u : Option (List ℕ))
    → option_map (λ rest. p ++ rest) (option_map (λ xs. x ∷ xs) u) ≡ option_map (λ rest. (p ++ x ∷ []) ++ rest) u
moved p x None = refl
moved p x (Some u) = ap Some (sym (append_assoc p (x ∷ []) u))

-- all bytes were taken, the last of them a `}` that turns the next one, or not
pub taken_whole : (bytes payload : List ℕ) (i : ℕ) (is_behind : Bool) → length bytes ≤ i
    → unescaped bytes ≡ option_map (λ (rest : List ℕ). payload ++ rest) (unescaped_from is_behind (drop i bytes))
    → is_behind ≡ false → unescaped bytes ≡ Some payload
taken_whole bytes payload i is_behind end so plain =
    so ∙ ap (λ (xs : List ℕ). option_map (λ (rest : List ℕ). payload ++ rest) (unescaped_from is_behind xs)) (drop_all i bytes end)
    ∙ ap (λ (b : Bool). option_map (λ (rest : List ℕ). payload ++ rest) (unescaped_from b [])) plain
    ∙ ap Some (append-nil payload)

pub cut_off : (bytes payload : List ℕ) (i : ℕ) (is_behind : Bool) → length bytes ≤ i
    → unescaped bytes ≡ option_map (λ (rest : List ℕ). payload ++ rest) (unescaped_from is_behind (drop i bytes))
    → is_behind ≡ true → unescaped bytes ≡ None
cut_off bytes payload i is_behind end so turns =
    so ∙ ap (λ (xs : List ℕ). option_map (λ (rest : List ℕ). payload ++ rest) (unescaped_from is_behind xs)) (drop_all i bytes end)
    ∙ ap (λ (b : Bool). option_map (λ (rest : List ℕ). payload ++ rest) (unescaped_from b [])) turns

-- the digits of a byte are decoded to it
pub digits_decoded : (b : ℕ) → IsBytes (b ∷ []) → decode_sized (digits_of b) 1 ≡ Ok (b ∷ [])
unfolding encode_with
digits_decoded b h = decode_sized-encode_lower (b ∷ []) 1 refl h

-- a byte alone
one_byte : (x : ℕ) → x < 256 → (i : ℕ) → slice_index (x ∷ []) i < 256
one_byte x h zero = h
one_byte x h (suc i) = grind arith

-- the digits of a packet are those of its sum
pub sum_of_packet : (payload bytes digits : List ℕ) → bytes ≡ escaped payload
    → digits ≡ digits_of (checksum (escaped payload)) → HasSum bytes digits
sum_of_packet payload bytes digits e d =
    rw (e, d) (digits_decoded (checksum (escaped payload)) (one_byte _ (omega arith)))

-- the next byte of what is left
pub drop_next : (bytes : List ℕ) (i : ℕ) → i < length bytes → drop i bytes ≡ get_or bytes i 0 ∷ drop (i + 1) bytes
drop_next bytes i lt = rw add-one (drop-cons bytes i 0 lt)

pub ok_inverse : (bytes items payload : List ℕ) → bytes ≡ escaped payload → unescaped bytes ≡ Some items
    → items ≡ payload
ok_inverse bytes items payload e h = same_Some _ _ (sym h ∙ (ap unescaped e ∙ unescaped-escaped payload))

pub error_inverse : (bytes payload : List ℕ) (error : PacketError) → bytes ≡ escaped payload
    → ((error ≡ OutOfMemory) ⊎ ((error ≡ CutOff) × (unescaped bytes ≡ None))) → error ≡ OutOfMemory
error_inverse bytes payload error e (inl h) = h
error_inverse bytes payload error e (inr h) =
    let whole : unescaped bytes ≡ Some payload = ap unescaped e ∙ unescaped-escaped payload in
    let none : unescaped bytes ≡ None = h.1 in cc
