-- The decimal digits of a number: the definition's are what std writes for it.
use Rattle.words.specs.Prelude.{◌≡◌, ◌∙◌, sym, ap, List, [], ◌∷◌, ◌++◌, ℕ, zero, suc, ◌+◌, ◌/◌, ◌%◌, ◌^◌, ◌≤◌, ◌<◌, arith, lt-ltb, le-ltb, add-one, mod-eq_of_lt}
use Rattle.std.specs.Fmt.{decimal as written}
use Rattle.std.proofs.lemmas.Fmt.{AppendsLastDigit, decimal_from_appends, length-decimal-le}
use Rattle.answers.specs.{Text.places, Text.decimal, Text.digit_code, Text.last_digits}

-- the code of a last decimal digit
code : (n : ℕ) → digit_code (n % 10) ≡ 48 + n % 10
code n = rw (lt-ltb (n % 10) 10 (omega arith))

-- at most k digits
spelt : ℕ → ℕ → List ℕ
spelt zero n = []
spelt (suc k) n = last_digits 10 (places k n) n

-- a digit more
appends : AppendsLastDigit spelt
unfolding spelt places
appends = record { one = one; more = more }
  where
    digit : (n : ℕ) → n < 10 → digit_code (n % 10) ∷ [] ≡ (48 + n) ∷ []
    digit n l = ap (λ (d : ℕ). d ∷ []) (code n ∙ ap (λ (d : ℕ). 48 + d) (mod-eq_of_lt l))

    one : (k n : ℕ) → n < 10 → spelt (suc k) n ≡ (48 + n) ∷ []
    one zero n l = digit n l
    one (suc k) n l = rw (lt-ltb n 10 l) (digit n l)

    more : (k n : ℕ) → 10 ≤ n → spelt (suc k) n ≡ spelt k (n / 10) ++ ((48 + n % 10) ∷ [])
    more zero n l = ap (λ (d : ℕ). d ∷ []) (code n)
    more (suc k) n l =
        rw (le-ltb n 10 l) (rw add-one (ap (λ (d : ℕ). last_digits 10 (places k (n / 10)) (n / 10) ++ (d ∷ [])) (code n)))

-- a number's decimal digits
pub decimal_is : (n : ℕ) → n < 2 ^ 64 → written n ≡ decimal n
unfolding decimal spelt
decimal_is n h = sym (decimal_from_appends spelt appends 20 n h (length-decimal-le 20 n (omega arith) (omega arith) h))
