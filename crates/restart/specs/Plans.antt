-- A PLAN OF PROGRAMS. A driver writes an image into flash by programs, one after another; the supply may fail in any of them, and then the bytes at
-- that program's places are any bytes at all. Definitions only.
use Rattle.std.specs.Prelude.{ℕ, ◌≤◌, ◌<◌, ◌≡◌, Bool, false, ◌||◌, List, [], ◌∷◌, ◌++◌, ◌⊎◌, eqb, length, get_or, set}
use Rattle.table.specs.{Bytes.Bytes}

-- a program is a list of places, in any order: does it touch this one?
unfoldable pub touches : List ℕ → ℕ → Bool
touches [] i = false
touches (p ∷ ps) i = eqb p i || touches ps i

-- does one of these programs?
unfoldable pub covers : List (List ℕ) → ℕ → Bool
covers [] i = false
covers (program ∷ programs) i = touches program i || covers programs i

-- a program that is done: these bytes stand at its places
unfoldable pub programmed : List ℕ → List ℕ → List ℕ → List ℕ
programmed bytes [] area = area
programmed bytes (p ∷ ps) area = programmed bytes ps (set area p (get_or bytes p 0))

-- programs that are done, one after another
unfoldable pub all_programmed : List ℕ → List (List ℕ) → List ℕ → List ℕ
all_programmed bytes [] area = area
all_programmed bytes (program ∷ programs) area = all_programmed bytes programs (programmed bytes program area)

-- a program that is cut, or that did not begin: any bytes at its places, and no other byte changes
pub record Torn (program area after : List ℕ) : Type 0 where
  pub long : length after ≡ length area
  pub bytes : Bytes after
  pub else : (i : ℕ) → touches program i ≡ false → get_or after i 0 ≡ get_or area i 0

-- What an area may hold when programs are cut anywhere, or not at all: those before the cut are done, the one that is cut is torn, and those after it do
-- not begin.
unfoldable pub CutIn : List ℕ → List (List ℕ) → List ℕ → List ℕ → Type 0
CutIn bytes [] area after = after ≡ area
CutIn bytes (program ∷ programs) area after = Torn program area after ⊎ CutIn bytes programs (programmed bytes program area) after

-- the programs of a plan: the last is named, since it commits
abbrev pub in_order : List (List ℕ) → List ℕ → List (List ℕ)
in_order before last = before ++ (last ∷ [])

-- each byte that no program touches is right already
abbrev pub RestRight : List ℕ → List ℕ → List (List ℕ) → List ℕ → Type 0
RestRight bytes area before last = (i : ℕ) → i < length bytes → covers before i ≡ false → touches last i ≡ false → get_or area i 0 ≡ get_or bytes i 0

-- What is asked of a plan for these bytes over this area: no program before the last touches byte 2, the last keeps to the first eight bytes, and each
-- byte that no program touches is right already.
pub record Plan (bytes area : List ℕ) (before : List (List ℕ)) (last : List ℕ) : Type 0 where
  pub off : covers before 2 ≡ false
  pub low : (i : ℕ) → 8 ≤ i → touches last i ≡ false
  pub rest : RestRight bytes area before last
