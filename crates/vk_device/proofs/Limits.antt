-- The limit on the points of a clean past.
use Rattle.std.proofs.Common.{◌≡◌, ℕ, suc, length, ◌<◌, ◌≤◌, [], ◌∷◌, false, arith}
use Rattle.std.specs.List.{cons_option}
use Rattle.std.proofs.lemmas.Bool.{leb-false}
use Rattle.vk_model.specs.declared.entry.Entry.{Entry}
use Rattle.vk_model.specs.declared.rule.Rule.TheVariants as rule
use Rattle.vk_model.specs.Rules.Table.{breaks}
use Rattle.vk_model.specs.Rules.Traces.{breaks_limit}
use Rattle.vk_model.specs.Trace.Order.{Front, after_entry, host}
use Rattle.vk_model.specs.Trace.Point.{Past, Action, Host, Wait, Run, Signal, host_of, entries}
use Rattle.vk_device.specs.Inner.Clean.{IsClean}
use Rattle.vk_device.proofs.Unbroken.{breaks_none}
use Rattle.vk_device.proofs.Clean.{clean_entry}

entry_count : (past : Past) → length (entries past) ≤ length past
entry_count [] = omega arith
entry_count (p ∷ past) = go p.action (entry_count past)
  where
    go : (a : Action) → length (entries past) ≤ length past → length (cons_option (host_of a) (entries past)) ≤ suc (length past)
    go (Host x) le = omega arith
    go (Wait w) le = omega arith
    go (Run c) le = omega arith
    go (Signal w) le = omega arith

-- the number of an entry that breaks no rule is below the limit
pub below_limit : (e : ℕ) (x : Entry) (f : Front) → IsClean (after_entry e x f).past → length (entries f.past) < 131072
unfolding breaks
below_limit e x f clean =
    let unbroken : breaks_limit f.past (host e x) ≡ false = breaks_none f.past (host e x) (clean_entry e x f clean) rule.Limit in
    let some : length f.past < 131072 = leb-false 131072 (length f.past) unbroken in
    let most = entry_count f.past in
    omega arith
