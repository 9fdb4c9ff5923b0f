-- What points do with objects, by the entries that they are.
use Rattle.std.proofs.Common.{◌≡◌, ℕ, [], ◌∷◌, Bool, true, false, cond, ◌||◌, Option, Some, None, is_some, refl}
use Rattle.std.specs.List.{find, list_any, cons_option}
use Rattle.vk_model.specs.declared.entry.Entry.{Entry}
use Rattle.vk_model.specs.Basics.{holds, among}
use Rattle.vk_model.specs.Trace.Point.{Past, host_of, entries}
use Rattle.vk_model.specs.Trace.Objects.{ended, ended_by}
use Rattle.vk_hazards.specs.declared.before.doings.Doing.TheVariants.{Ends}
use Rattle.vk_hazards.specs.Doings.{does}

-- an id has ended where a point ends it
pub ended_is : (past : Past) (i : ℕ) → is_some (find (does Ends i) past) ≡ ended past i
ended_is [] i = refl
ended_is (p ∷ past) i = go (host_of p.action) (ended_is past i)
  where
    by : (b : Bool) → is_some (find (does Ends i) past) ≡ ended past i → is_some (cond b (Some p) (find (does Ends i) past)) ≡ (b || ended past i)
    by true rest = refl
    by false rest = rest

    go : (o : Option Entry) → is_some (find (does Ends i) past) ≡ ended past i
        → is_some (cond (holds o (λ x. among i (ended_by x))) (Some p) (find (does Ends i) past)) ≡ list_any (λ x. among i (ended_by x)) (cons_option o (entries past))
    go None rest = rest
    go (Some x) rest = by (among i (ended_by x)) rest
