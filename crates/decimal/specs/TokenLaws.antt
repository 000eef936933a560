-- A token that grows by bytes behind it.
use Rattle.std.specs.Prelude.{ℕ, ◌≤◌, ◌<◌, ◌≡◌, Bool, cond, ◌&&◌, ltb, Option, None, Some}
use Rattle.std.proofs.Math.Path.{refl}
use Rattle.std.proofs.Common.{◌∙◌, ap, arith, ltb-false, lt-ltb, le-ltb}
use Rattle.std.proofs.Math.Bool.{true, false}
use mathlib.Core.List.{List, [], ◌∷◌, ◌++◌, foldl, foldl-append, append-nil}
use Rattle.decimal.specs.Input.{longer, after_byte, is_space, runs, is_digit, all_digits, with_digit, value_of, word_limit, number_of}

-- ---- Runs

-- Some bytes stand before the first of some runs.
unfoldable pub joined : List ℕ → List (List ℕ) → List (List ℕ)
joined [] others = others
joined (b ∷ run) others = longer b (joined run others)

pub joined_first : (run first : List ℕ) (others : List (List ℕ)) → joined run (first ∷ others) ≡ (run ++ first) ∷ others
unfolding joined
joined_first [] first others = refl
joined_first (b ∷ run) first others = ap (longer b) (joined_first run first others)

pub joined_ended : (run : List ℕ) (others : List (List ℕ)) → joined run ([] ∷ others) ≡ run ∷ others
joined_ended run others = joined_first run [] others ∙ ap (λ r. r ∷ others) (append-nil run)

pub joined_longer : (run : List ℕ) (b : ℕ) (others : List (List ℕ)) → joined run (longer b others) ≡ joined (run ++ b ∷ []) others
unfolding joined
joined_longer [] b others = refl
joined_longer (a ∷ run) b others = ap (longer a) (joined_longer run b others)

-- There is a first run.
pub data Runs : List (List ℕ) → Type 0 where
  runs_are : (first : List ℕ) (others : List (List ℕ)) → Runs (first ∷ others)

pub some_run : (input : List ℕ) → Runs (runs input)
unfolding runs
some_run [] = runs_are [] []
some_run (b ∷ bytes) = go (is_space b) (some_run bytes)
  where
    go : (space : Bool) {others : List (List ℕ)} → Runs others → Runs (after_byte space b others)
    go true (runs_are first others) = runs_are [] (first ∷ others)
    go false (runs_are first others) = runs_are (b ∷ first) others

-- ---- Numbers

pub all_digits_append : (xs ys : List ℕ) → all_digits (xs ++ ys) ≡ (all_digits xs && all_digits ys)
unfolding all_digits
all_digits_append [] ys = refl
all_digits_append (x ∷ xs) ys = go (is_digit x) (all_digits_append xs ys)
  where
    go : (digit : Bool) → all_digits (xs ++ ys) ≡ (all_digits xs && all_digits ys) → (digit && all_digits (xs ++ ys)) ≡ ((digit && all_digits xs) && all_digits ys)
    go true e = e
    go false e = refl

pub value_append : (xs ys : List ℕ) → value_of (xs ++ ys) ≡ foldl with_digit (value_of xs) ys
value_append xs ys = foldl-append with_digit 0 xs ys

no_smaller : (n : ℕ) (bytes : List ℕ) → n ≤ foldl with_digit n bytes
no_smaller n [] = omega arith
no_smaller n (b ∷ bytes) = omega (arith, no_smaller (with_digit n b) bytes)

abbrev pub value_so_far : Option ℕ → ℕ
value_so_far None = 0
value_so_far (Some value) = value

-- The bytes of the token under way, and its value so far.
pub data Begun : List ℕ → Option ℕ → Type 0 where
  between : Begun [] None
  within : {b : ℕ} {run : List ℕ} {value : ℕ} → all_digits (b ∷ run) ≡ true → value_of (b ∷ run) ≡ value → value < word_limit → Begun (b ∷ run) (Some value)

pub begun_number : {b : ℕ} {run : List ℕ} {value : ℕ} → Begun (b ∷ run) (Some value) → number_of (b ∷ run) ≡ Some value
begun_number (within digits is below) = rw (digits, is, lt-ltb _ _ below)

-- A token that begins with no number is none.
pub no_number_longer : (run more : List ℕ) → number_of run ≡ None → number_of (run ++ more) ≡ None
no_number_longer run more e = go (all_digits run) (ltb (value_of run) word_limit) refl refl e
  where
    go : (digits below : Bool) → all_digits run ≡ digits → ltb (value_of run) word_limit ≡ below → cond (digits && below) (Some (value_of run)) None ≡ None → number_of (run ++ more) ≡ None
    go false below d l n = rw (all_digits_append run more, d)
    go true false d l n =
        let large : word_limit ≤ value_of (run ++ more) = rw value_append (omega (arith, ltb-false (value_of run) word_limit l, no_smaller (value_of run) more)) in
        rw (le-ltb (value_of (run ++ more)) word_limit large) (neither (all_digits (run ++ more)))
      where
        neither : (digits : Bool) → cond (digits && false) (Some (value_of (run ++ more))) None ≡ None
        neither true = refl
        neither false = refl
    go true true d l n = absurd (let z : ◌≡◌ {A = ℕ} 0 1 = cc in omega arith)

-- ---- One more byte

digits_so_far : {run : List ℕ} {token : Option ℕ} → Begun run token → all_digits run ≡ true
unfolding all_digits
digits_so_far between = refl
digits_so_far (within digits is below) = digits

value_so_far_lem : {run : List ℕ} {token : Option ℕ} → Begun run token → value_of run ≡ value_so_far token
value_so_far_lem between = refl
value_so_far_lem (within digits is below) = is

begun_with : (run : List ℕ) (b : ℕ) {value : ℕ} → all_digits (run ++ b ∷ []) ≡ true → value_of (run ++ b ∷ []) ≡ value → value < word_limit → Begun (run ++ b ∷ []) (Some value)
begun_with [] b digits is below = within digits is below
begun_with (a ∷ run) b digits is below = within digits is below

module _ {run : List ℕ} {token : Option ℕ} (begun : Begun run token) (b : ℕ) where
  digits_with : all_digits (run ++ b ∷ []) ≡ is_digit b
  unfolding all_digits
  digits_with = all_digits_append run (b ∷ []) ∙ rw (digits_so_far begun) (go (is_digit b))
    where
      go : (digit : Bool) → (true && (digit && true)) ≡ digit
      go true = refl
      go false = refl

  value_with : value_of (run ++ b ∷ []) ≡ with_digit (value_so_far token) b
  value_with = value_append run (b ∷ []) ∙ ap (λ v. with_digit v b) (value_so_far_lem begun)

  pub no_digit : is_digit b ≡ false → number_of (run ++ b ∷ []) ≡ None
  no_digit e = rw (digits_with, e)

  module _ (digit : is_digit b ≡ true) where
    pub grows : with_digit (value_so_far token) b < word_limit → Begun (run ++ b ∷ []) (Some (with_digit (value_so_far token) b))
    grows below = begun_with run b (digits_with ∙ digit) value_with below

    pub too_large : word_limit ≤ with_digit (value_so_far token) b → number_of (run ++ b ∷ []) ≡ None
    too_large large = rw (digits_with, digit, value_with, le-ltb _ _ large)
