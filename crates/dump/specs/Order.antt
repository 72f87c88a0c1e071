-- The order of writing, and what an area holds when some of it is written. Definitions only.
use Rattle.std.specs.Prelude.{ℕ, zero, suc, ◌+◌, ◌-◌, min, cond, List, length, get_or, set, ltb}
use Rattle.images.specs.{Layout.head_bytes}

-- the bytes of the mark
abbrev pub mark_bytes : ℕ
mark_bytes = 3

-- "The body goes first, and of the header .. the mark's last byte is written last of all": bytes 256 to the end, then 3 to 255, then 0, 1, 2.
-- Where byte n of that order stands, in an image of so many bytes.
unfoldable pub place_of : ℕ → ℕ → ℕ
place_of size n =
    cond (ltb n (size - head_bytes)) (head_bytes + n)
    (cond (ltb n (size - mark_bytes)) (mark_bytes + (n - (size - head_bytes)))
    (n - (size - mark_bytes)))

-- one byte after another: n of them, from byte `from` of the order on
unfoldable pub stretch : List ℕ → List ℕ → ℕ → ℕ → List ℕ
stretch image area from zero = area
stretch image area from (suc n) =
    let p = place_of (length image) (from + n) in
    set (stretch image area from n) p (get_or image p 0)

-- bytes `from` to `upto` of the order; past its end there are none
unfoldable pub written : List ℕ → List ℕ → ℕ → ℕ → List ℕ
written image area from upto = stretch image area from (min upto (length image) - from)
