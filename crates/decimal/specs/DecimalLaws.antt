-- The digits of a number: that the library prints them, and that they write it.
use Rattle.std.specs.Prelude.{ℕ, zero, suc, ◌+◌, ◌/◌, ◌%◌, ◌^◌, ◌≤◌, ◌<◌, ◌≡◌, ◌≢◌, true, List, [], ◌∷◌, ◌++◌, length, ℤ, pos, negsuc, Some}
use Rattle.std.proofs.Common.{sym, ◌∙◌, ap, arith, lt-ltb, le-ltb, le-leb, length-append}
use Rattle.std.proofs.lemmas.Fmt.{AppendsLastDigit, decimal_from_appends, length-decimal-le_succ}
use Rattle.std.specs.Fmt.{decimal as printed, signed_decimal as signed_printed}
use Rattle.std.specs.Int.{w32}
use Rattle.std.specs.Int.Signed.{mag}
use Rattle.std.proofs.Common.{Fits, to_z, of_z}
use Rattle.std.proofs.Math.Facts.{of_z-to_z, sfits_to_z}
use Rattle.std.proofs.Math.Decide.{dec_lt}
use Rattle.decimal.specs.Input.{is_digit, all_digits, with_digit, value_of, word_limit, number_of}
use Rattle.decimal.specs.TokenLaws.{all_digits_append, value_append}
use Rattle.decimal.specs.Decimal.{digit_byte, digits_within, decimal, signed_decimal, NoZeroFirst, first_is}

-- ---- The first digit, and the others

enough : (most most' n : ℕ) → n < most → n < most' → digits_within most n ≡ digits_within most' n
unfolding digits_within
enough zero most' n h h' = absurd (omega arith)
enough (suc most) zero n h h' = absurd (omega arith)
enough (suc most) (suc most') n h h' = go (dec_lt n 10) (λ l l'. enough most most' (n / 10) l l')
  where
    go : Dec (n < 10) → (n / 10 < most → n / 10 < most' → digits_within most (n / 10) ≡ digits_within most' (n / 10)) → digits_within (suc most) n ≡ digits_within (suc most') n
    go (yes small) same = rw (lt-ltb n 10 small)
    go (no large) same = rw (le-ltb n 10 (omega arith), same (omega arith) (omega arith))

pub one_digit : (n : ℕ) → n < 10 → decimal n ≡ digit_byte n ∷ []
unfolding decimal digits_within
one_digit n small = rw (lt-ltb n 10 small)

pub more_digits : (n : ℕ) → 10 ≤ n → decimal n ≡ decimal (n / 10) ++ digit_byte (n % 10) ∷ []
unfolding decimal digits_within
more_digits n large = rw (le-ltb n 10 large, enough n (suc (n / 10)) (n / 10) (omega arith) (omega arith))

-- ---- The library's digits

own_digits : AppendsLastDigit digits_within
unfolding digits_within
own_digits = record {
  one = λ most n small. rw (lt-ltb n 10 small);
  more = λ most n large. rw (le-ltb n 10 large);
}

-- What the library prints of a number are these digits.
pub printed_digits : (n : ℕ) → n < 2 ^ 64 → printed n ≡ decimal n
unfolding decimal
printed_digits n h = sym (decimal_from_appends digits_within own_digits (suc n) n h (omega (arith, length-decimal-le_succ n h)))

printed_integer : (z : ℤ) → mag z < 2 ^ 63 → signed_printed z ≡ signed_decimal z
printed_integer (pos n) h = printed_digits n (omega arith)
printed_integer (negsuc n) h = rw (printed_digits (suc n) (omega arith))

-- And of a signed number, here one by its pattern.
pub printed_pattern : (p : ℕ) {z : ℤ} → Fits w32 p → z ≡ to_z w32 p → signed_printed (to_z w32 (of_z w32 z)) ≡ signed_decimal (to_z w32 p)
printed_pattern p fits is =
    let small : mag (to_z w32 p) < 2 ^ 63 = omega (arith, (sfits_to_z fits).sfits) in
    rw (is, of_z-to_z fits) (printed_integer (to_z w32 p) small)

-- ---- How many

few_digits : (k n : ℕ) → n < 10 ^ suc k → length (decimal n) ≤ suc k
few_digits zero n h = rw (one_digit n h) (omega arith)
few_digits (suc k) n h = go (dec_lt n 10) (λ l. few_digits k (n / 10) l)
  where
    go : Dec (n < 10) → (n / 10 < 10 ^ suc k → length (decimal (n / 10)) ≤ suc k) → length (decimal n) ≤ suc (suc k)
    go (yes small) few = rw (one_digit n small) (omega arith)
    go (no large) few = rw (more_digits n (omega arith), length-append) (omega (arith, few (omega arith)))

pub ten_digits : (n : ℕ) → n < word_limit → length (decimal n) ≤ 10
ten_digits n h = few_digits 9 n (omega arith)

-- ---- They write the number

-- Digits that write n.
record Writes (token : List ℕ) (n : ℕ) : Type 0 where
  digits : all_digits token ≡ true
  value : value_of token ≡ n

last_digit : (d : ℕ) → d < 10 → is_digit (digit_byte d) ≡ true
last_digit d h = rw (le-leb 48 (48 + d) (omega arith), lt-ltb (48 + d) 58 (omega arith))

one_written : (d : ℕ) → d < 10 → Writes (digit_byte d ∷ []) d
unfolding all_digits
one_written d h = record { digits = rw (last_digit d h); value = omega arith }

more_written : (token : List ℕ) (n : ℕ) → Writes token (n / 10) → Writes (token ++ digit_byte (n % 10) ∷ []) n
unfolding all_digits
more_written token n w = record {
  digits = all_digits_append token (digit_byte (n % 10) ∷ []) ∙ rw (w.digits, last_digit (n % 10) (omega arith));
  value = value_append token (digit_byte (n % 10) ∷ []) ∙ ap (λ v. with_digit v (digit_byte (n % 10))) w.value ∙ omega arith;
}

decimal_writes : (most n : ℕ) → n < most → Writes (decimal n) n
decimal_writes zero n h = absurd (omega arith)
decimal_writes (suc most) n h = go (dec_lt n 10) (λ l. decimal_writes most (n / 10) l)
  where
    go : Dec (n < 10) → (n / 10 < most → Writes (decimal (n / 10)) (n / 10)) → Writes (decimal n) n
    go (yes small) front = rw (one_digit n small) (one_written n small)
    go (no large) front = rw (more_digits n (omega arith)) (more_written (decimal (n / 10)) n (front (omega arith)))

-- A printed word is read as that word.
pub printed_is_read : (n : ℕ) → n < word_limit → number_of (decimal n) ≡ Some n
printed_is_read n h =
    let written = decimal_writes (suc n) n (omega arith) in
    rw (written.digits, written.value, lt-ltb n word_limit h)

-- ---- No leading zeros

-- The first digit is not 0.
first_stays : {bytes : List ℕ} (more : List ℕ) → NoZeroFirst bytes → NoZeroFirst (bytes ++ more)
first_stays more (first_is n) = first_is n

decimal_begins : (most n : ℕ) → n < most → n ≢ 0 → NoZeroFirst (decimal n)
decimal_begins zero n h some_n = absurd (omega arith)
decimal_begins (suc most) n h some_n = go (dec_lt n 10) (λ l l'. decimal_begins most (n / 10) l l')
  where
    go : Dec (n < 10) → (n / 10 < most → n / 10 ≢ 0 → NoZeroFirst (decimal (n / 10))) → NoZeroFirst (decimal n)
    go (yes small) front = let not_zero : digit_byte n ≢ digit_byte 0 = omega arith in rw (one_digit n small) (first_is not_zero)
    go (no large) front = rw (more_digits n (omega arith)) (first_stays (digit_byte (n % 10) ∷ []) (front (omega arith) (omega arith)))

pub no_leading_zero : (n : ℕ) → n ≢ 0 → NoZeroFirst (decimal n)
no_leading_zero n some_n = decimal_begins (suc n) n (omega arith) some_n
