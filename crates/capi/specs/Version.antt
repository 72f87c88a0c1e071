-- The number of a version: major, minor and patch in one, so that of two versions the later has the larger number. Definitions only.
use Rattle.std.specs.Prelude.{ℕ, ◌*◌, ◌+◌}

-- Decided: minor and patch stay below 1,000
abbrev pub version_number : ℕ → ℕ → ℕ → ℕ
version_number major minor patch = major * 1000000 + minor * 1000 + patch

-- 1.0.0
abbrev pub library_version : ℕ
library_version = version_number 1 0 0
