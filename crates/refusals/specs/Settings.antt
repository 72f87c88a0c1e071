-- Refusal 12. Settings are numbered as docs/ lists them.
use Rattle.std.specs.Prelude.{ℕ, Bool, true, false, ◌&&◌, List, [], ◌∷◌, ◌++◌, ltb, leb, Float, None, Option, Some}
use Rattle.floats.specs.{Floats.◌≼◌, Floats.finite, Floats.zero}
use Rattle.execution.specs.{declared.terms.Risk.Risk, declared.terms.Sizing.Sizing, declared.terms.Sizing.TheVariants.FixedFraction}
use Rattle.execution.specs.{declared.terms.Sizing.TheVariants.FixedQty, declared.terms.Sizing.TheVariants.FixedCash}
use Rattle.execution.specs.{declared.terms.Sizing.TheVariants.VolTarget, declared.terms.Sizing.TheVariants.RiskPerTrade}
use Rattle.execution.specs.{declared.terms.Sizing.TheVariants.Unknown, declared.terms.Slippage.Slippage, declared.terms.Slippage.TheVariants.FixedBps}
use Rattle.execution.specs.{declared.terms.Slippage.TheVariants.VolumeImpact, declared.terms.Slippage.TheVariants.Unknown as UnknownSlippage}
use Rattle.execution.specs.{declared.terms.Terms.Terms, declared.level.Entries.Entries, declared.level.OrderType.OrderType}
use Rattle.execution.specs.{declared.level.OrderType.TheVariants.Market, declared.level.OrderType.TheVariants.Limit}
use Rattle.execution.specs.{declared.level.OrderType.TheVariants.Stop, declared.level.OrderType.TheVariants.StopLimit}
use Rattle.execution.specs.{declared.level.OrderType.TheVariants.Unknown as UnknownType}
use Rattle.records.specs.{declared.settings.Settings.Settings}
use Rattle.words.specs.{Limits.most_slots, Limits.most_rows, Limits.most_reach}
use Rattle.refusals.specs.{Lines.Line, Lines.line}
use Rattle.words.specs.declared.refusal.Refusal.TheVariants as Refusal

-- setting 7: only VolTarget has one
abbrev pub lookback : Sizing → ℕ
lookback (VolTarget x n) = n
lookback (FixedFraction x) = 0
lookback (FixedQty x) = 0
lookback (FixedCash x) = 0
lookback (RiskPerTrade x) = 0
lookback Unknown = 0

-- "of an unknown kind": setting 5
abbrev pub sizing_known : Sizing → Bool
sizing_known Unknown = false
sizing_known (FixedFraction x) = true
sizing_known (FixedQty x) = true
sizing_known (FixedCash x) = true
sizing_known (VolTarget x n) = true
sizing_known (RiskPerTrade x) = true

-- setting 6
abbrev pub sizing_value : Sizing → Float
sizing_value (FixedFraction x) = x
sizing_value (FixedQty x) = x
sizing_value (FixedCash x) = x
sizing_value (VolTarget x n) = x
sizing_value (RiskPerTrade x) = x
sizing_value Unknown = zero

-- "of an unknown kind": setting 9
abbrev pub slippage_known : Slippage → Bool
slippage_known UnknownSlippage = false
slippage_known (FixedBps x) = true
slippage_known (VolumeImpact x) = true

-- setting 10
abbrev pub slippage_value : Slippage → Float
slippage_value (FixedBps x) = x
slippage_value (VolumeImpact x) = x
slippage_value UnknownSlippage = zero

-- "a setting not finite": a level that is absent is none
abbrev pub level_fine : Option Float → Bool
level_fine None = true
level_fine (Some x) = finite x

-- "risk sizing without stop loss"
abbrev pub stop_there : Sizing → Option Float → Bool
stop_there (RiskPerTrade x) None = false
stop_there (RiskPerTrade x) (Some p) = true
stop_there (FixedFraction x) stop = true
stop_there (FixedQty x) stop = true
stop_there (FixedCash x) stop = true
stop_there (VolTarget x n) stop = true
stop_there Unknown stop = true

-- "a given D outside 1 to 4,096 or not above a VolTarget lookback": setting 1
abbrev pub depth_fine : ℕ → Sizing → Bool
depth_fine D sizing = leb 1 D && leb D most_rows && ltb (lookback sizing) D

-- "a negative lot gives 12", as one that is not finite: setting 24. A lot of -0.0 is one of 0.
abbrev pub lot_fine : Float → Bool
lot_fine lot = finite lot && (zero ≼ lot)

-- settings 5 to 7
unfoldable pub sizing_lines : Sizing → List Line
sizing_lines sizing =
    line (sizing_known sizing) (Refusal.Setting 5)
    ∷ line (finite (sizing_value sizing)) (Refusal.Setting 6)
    ∷ line (leb (lookback sizing) most_reach) (Refusal.Setting 7)
    ∷ []

-- settings 9 and 10
unfoldable pub slippage_lines : Slippage → List Line
slippage_lines slippage =
    line (slippage_known slippage) (Refusal.Setting 9)
    ∷ line (finite (slippage_value slippage)) (Refusal.Setting 10)
    ∷ []

-- settings 12 to 16
unfoldable pub risk_lines : Sizing → Risk → List Line
risk_lines sizing risk =
    line (stop_there sizing risk.stop_loss_pct) (Refusal.Setting 12)
    ∷ line (level_fine risk.stop_loss_pct) (Refusal.Setting 12)
    ∷ line (level_fine risk.trailing_stop_pct) (Refusal.Setting 13)
    ∷ line (level_fine risk.take_profit_pct) (Refusal.Setting 14)
    ∷ line (level_fine risk.max_leverage) (Refusal.Setting 15)
    ∷ line (level_fine risk.max_position_pct) (Refusal.Setting 16)
    ∷ []

-- settings 5 to 19 but 11
unfoldable pub term_lines : Terms → List Line
term_lines t =
    sizing_lines t.sizing
    ++ (line (finite t.taker_bps) (Refusal.Setting 8)
    ∷ (slippage_lines t.slippage
    ++ (risk_lines t.sizing t.risk
    ++ (line (finite t.max_participation) (Refusal.Setting 19)
    ∷ []))))

-- "an unknown order kind gives 12": setting 20
abbrev pub order_type_known : OrderType → Bool
order_type_known UnknownType = false
order_type_known Market = true
order_type_known Limit = true
order_type_known Stop = true
order_type_known StopLimit = true

-- settings 20 to 24: "a setting not finite", a percentage that its kind does not use too
unfoldable pub entry_lines : Entries → Float → List Line
entry_lines e lot =
    line (order_type_known e.order_type) (Refusal.Setting 20)
    ∷ line (finite e.level_pct) (Refusal.Setting 21)
    ∷ line (finite e.limit_pct) (Refusal.Setting 22)
    ∷ line (finite e.maker_bps) (Refusal.Setting 23)
    ∷ line (lot_fine lot) (Refusal.Setting 24)
    ∷ []

-- "12: a setting not finite or of an unknown kind, lookback above 4,095, risk sizing without stop loss; a given K above
-- 64, a given D outside 1 to 4,096 or not above a VolTarget lookback"; the place is the setting's number.
unfoldable pub setting_lines : Settings → List Line
setting_lines s =
    line (leb s.slots most_slots) (Refusal.Setting 0)
    ∷ line (depth_fine s.depth s.terms.sizing) (Refusal.Setting 1)
    ∷ line (finite s.capital) (Refusal.Setting 2)
    ∷ (term_lines s.terms
    ++ entry_lines s.entries s.terms.lot)
