-- What became of an id that a point names.
use Rattle.std.proofs.Common.{◌≡◌, ℕ, List, map, true, false, Some, sym, ap, ◌∙◌, subst}
use Rattle.std.specs.List.{find, list_any}
use Rattle.std.specs.Prelude.{Contains, Option, option_map}
use Rattle.vk_model.specs.Trace.Point.{Past, Point}
use Rattle.vk_model.specs.Rules.Ids.{Asked as AskedIds, asked_by, judged_in, is_dead}
use Rattle.vk_model.proofs.Lists.Members.{map_has, any_map}
use Rattle.vk_model.specs.declared.point.Point.{Point as ProgramPoint}
use Rattle.vk_model.specs.Trace.PointViews.{point_of}
use Rattle.vk_hazards.specs.declared.before.doings.Doing.TheVariants.{Makes}
use Rattle.vk_hazards.specs.Doings.{does}
use Rattle.vk_hazards.specs.declared.asked.Asked.{Asked}
use Rattle.vk_hazards.specs.declared.lives.Life.{Life}
use Rattle.vk_hazards.specs.Lives.{asked_of, kind_test, IsLife, IsDead}

-- one of the ids that a point names isn't live, and that is what became of it
pub dead_from : (older : Past) (p : Point) (judged : Past) (items : List Asked) (d : Asked) (l : Life) (ever : Option ProgramPoint) → judged ≡ judged_in older p → map asked_of items ≡ asked_by p.action
    → Contains items d → is_dead judged (asked_of d) ≡ true → IsLife judged d.id l → option_map point_of ever ≡ find (does Makes d.id) older
    → IsDead older p (Some (record { life = l; made_ever = ever; wanted = d.kind }))
dead_from older p judged items d l ever is all there dead life made =
    let e : d.id ≡ l.id = sym life.id in (
      subst (λ (n : ℕ). Contains (asked_by p.action) (n, kind_test d.kind)) e (subst (λ (xs : AskedIds). Contains xs (asked_of d)) all (map_has asked_of items d there)),
      subst (λ (n : ℕ). is_dead (judged_in older p) (n, kind_test d.kind) ≡ true) e (subst (λ (past : Past). is_dead past (asked_of d) ≡ true) is dead),
      subst (λ (n : ℕ). IsLife (judged_in older p) n l) e (subst (λ (past : Past). IsLife past d.id l) is life),
      subst (λ (n : ℕ). option_map point_of ever ≡ find (does Makes n) older) e made,
    )

-- none of them is
pub none_dead : (older : Past) (p : Point) (judged : Past) (items slice : List Asked) → judged ≡ judged_in older p → map asked_of items ≡ asked_by p.action → slice ≡ items
    → list_any (λ a. is_dead judged (asked_of a)) slice ≡ false → list_any (is_dead (judged_in older p)) (asked_by p.action) ≡ false
none_dead older p judged items slice is all value none =
    ap (list_any (is_dead (judged_in older p))) (sym all) ∙ any_map (is_dead (judged_in older p)) asked_of items
    ∙ subst (λ (past : Past). list_any (λ a. is_dead past (asked_of a)) items ≡ false) is (subst (λ (l : List Asked). list_any (λ a. is_dead judged (asked_of a)) l ≡ false) value none)
