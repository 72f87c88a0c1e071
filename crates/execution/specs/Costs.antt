-- What a fill costs, and funding. Definitions only, each under what the Rust writes.
use Rattle.std.specs.Prelude.{Bool, cond, ℕ, Float, None, Option, Some}
use Rattle.floats.specs.{Floats.◌⊕◌, Floats.◌⊗◌, Floats.◌⊘◌, Floats.◌≺◌, Floats.abs, Floats.zero, Floats.one, Floats.ten_thousand}
use Rattle.portfolio.specs.{declared.Portfolio.Portfolio, declared.Closed.Closed, Portfolio.in_position, Portfolio.funded, Portfolio.exited}
use Rattle.execution.specs.{declared.terms.Slippage.Slippage, declared.terms.Slippage.TheVariants.FixedBps}
use Rattle.execution.specs.{declared.terms.Slippage.TheVariants.VolumeImpact, declared.terms.Slippage.TheVariants.Unknown}
use Rattle.execution.specs.{declared.costs.Funding.Funding}

-- `slippage_rate`: a fraction of the price. A kind that the papers do not name slips nothing (added).
unfoldable pub slippage_rate : Slippage → Float → Float → Float
slippage_rate (FixedBps bps) qty volume = bps ⊘ ten_thousand
slippage_rate (VolumeImpact coef) qty volume = cond (zero ≺ volume) (coef ⊗ abs qty ⊘ volume) zero
slippage_rate Unknown qty volume = zero

-- `let fill = raw_price * (1.0 + dir * slip);`
abbrev pub fill_price : Float → Float → Float → Float
fill_price raw dir slip = raw ⊗ (one ⊕ dir ⊗ slip)

-- `let taker = spec.costs.taker_bps / 10_000.0;`, and the maker's rate so too
abbrev pub fee_rate : Float → Float
fee_rate bps = bps ⊘ ten_thousand

-- `let fee = pf.qty.abs() * price * taker;  pf.exit(price, time, fee, reason);`
unfoldable pub closed : Portfolio → Float → ℕ → Float → ℕ → Closed
closed p price time bps reason = exited p price time (abs p.qty ⊗ price ⊗ fee_rate bps) reason

-- `let payment = self.pf.qty * d.mark_price * d.funding_rate;  self.pf.apply_funding(payment);`
-- "nothing if not supplied (added)"
unfoldable pub with_funding : Option Funding → Portfolio → Portfolio
with_funding None p = p
with_funding (Some funding) p = funded p (p.qty ⊗ funding.mark ⊗ funding.rate)

-- `charge_funding`. "Funding: in a position, if switched on, qty·mark·rate leaves cash."
unfoldable pub charge_funding : Bool → Option Funding → Portfolio → Portfolio
charge_funding on f p = cond on (cond (in_position p) (with_funding f p) p) p
