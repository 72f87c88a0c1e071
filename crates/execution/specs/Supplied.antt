-- A bar's funding where one is supplied, and a level where one is touched. Definitions only.
use Rattle.std.specs.Prelude.{ℕ, Float, Option, Some}
use Rattle.execution.specs.{declared.costs.Funding.Funding, declared.intrabar.Trigger.Trigger}

-- "mark or rate of a supplied funding"
abbrev pub supplied : Float → Float → Option Funding
supplied mark rate = Some (record { mark = mark; rate = rate })

-- the price at which a level fills, and its reason
abbrev pub touches : Float → ℕ → Option Trigger
touches price reason = Some (record { price = price; reason = reason })
