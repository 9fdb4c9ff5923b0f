-- The entry that made an id, by the point that made it.
use Rattle.std.proofs.Common.{◌≡◌, ℕ, [], ◌∷◌, Bool, true, false, cond, Option, Some, None, refl}
use Rattle.std.specs.Prelude.{option_and_then, ◌==◌}
use Rattle.std.specs.List.{find, cons_option}
use Rattle.vk_model.specs.declared.entry.Entry.{Entry}
use Rattle.vk_model.specs.Basics.{holds}
use Rattle.vk_model.specs.Trace.Point.{Past, Point, host_of, entries, on_host}
use Rattle.vk_model.specs.Trace.Objects.{made, made_by}
use Rattle.vk_hazards.specs.Creators.{creator}

-- the entry of the newest point that passes a test is the newest entry that does
pub newest_entry : (f : Entry → Bool) (past : Past) → option_and_then (λ (q : Point). host_of q.action) (find (on_host f) past) ≡ find f (entries past)
newest_entry f [] = refl
newest_entry f (p ∷ past) = go (host_of p.action) refl (newest_entry f past)
  where
    by : (x : Entry) (b : Bool) → host_of p.action ≡ Some x → option_and_then (λ (q : Point). host_of q.action) (find (on_host f) past) ≡ find f (entries past)
        → option_and_then (λ (q : Point). host_of q.action) (cond b (Some p) (find (on_host f) past)) ≡ cond b (Some x) (find f (entries past))
    by x true h rest = h
    by x false h rest = rest

    go : (o : Option Entry) → host_of p.action ≡ o → option_and_then (λ (q : Point). host_of q.action) (find (on_host f) past) ≡ find f (entries past)
        → option_and_then (λ (q : Point). host_of q.action) (cond (holds o f) (Some p) (find (on_host f) past)) ≡ find f (cons_option o (entries past))
    go None e rest = rest
    go (Some x) e rest = by x (f x) e rest

-- the entry that made an id is that of its creator
pub made_is : (past : Past) (i : ℕ) → option_and_then (λ (p : Point). host_of p.action) (creator past i) ≡ made past i
made_is past i = newest_entry (λ x. holds (made_by x) (λ j. i == j)) past
