-- What commands name in layouts, one part after another.
use Rattle.std.proofs.Common.{◌≡◌, ℕ, zero, suc, ◌+◌, List, [], ◌∷◌, ◌++◌, map, length, Bool, true, false, ◌||◌, Some, ap, sym, subst, ◌∙◌, arith}
use Rattle.std.specs.Prelude.{slice_get}
use Rattle.std.specs.List.{list_any}
use Rattle.std.proofs.lemmas.List.Folds.{list_any-append}
use Rattle.vk_model.specs.declared.command.ImageCopy.{ImageCopy}
use Rattle.vk_model.specs.World.Bytes.{World}
use Rattle.vk_model.specs.Rules.Layouts.{Named, is_allowed, has_other_layout}
use Rattle.vk_model.proofs.Lists.Items.{get_mapped}
use Rattle.vk_model.proofs.Lists.Members.{any_map}
use Rattle.vk_rules.specs.declared.layouts.NamedPart.{NamedPart}
use Rattle.vk_rules.specs.declared.layouts.WrongLayout.{WrongLayout}
use Rattle.vk_rules.specs.declared.layouts.WrongLayout.TheVariants as wrong
use Rattle.vk_rules.specs.Layouts.{IsWrongPart, named_of}
use Rattle.vk_rules.specs.Inner.Layouts.{IsWrongOne, destination_part}

-- ---- what is read, and then what is written

pub any_of_two : {A B : Type 0} (f : B → Bool) (g h : A → B) (xs : List A) → list_any f (map g xs ++ map h xs) ≡ (list_any (λ x. f (g x)) xs || list_any (λ x. f (h x)) xs)
any_of_two f g h xs = list_any-append f (map g xs) (map h xs) ∙ ap (λ (t : Bool). t || list_any f (map h xs)) (any_map f g xs) ∙ ap (λ (t : Bool). list_any (λ x. f (g x)) xs || t) (any_map f h xs)

pub get_after : {X : Type 0} (xs ys : List X) (i j : ℕ) → i ≡ length xs + j → slice_get (xs ++ ys) i ≡ slice_get ys j
get_after [] ys i j is = let same : i ≡ j = omega arith in ap (slice_get ys) same
get_after (x ∷ xs) ys zero j is = absurd (omega arith)
get_after (x ∷ xs) ys (suc i) j is = get_after xs ys i j (omega arith)

-- ---- one of some parts

pub wrong_in : (w : World) (parts : List Named) (n : NamedPart) (s : WrongLayout) → slice_get parts n.index ≡ Some (named_of n) → IsWrongOne w n s → IsWrongPart w parts s
wrong_in w parts n (wrong.Unallowed m) at one = subst (λ (x : NamedPart). (slice_get parts x.index ≡ Some (named_of x)) × (is_allowed x.is_written x.layout ≡ false)) (sym one.0) (at, one.1)
wrong_in w parts n (wrong.Other m) at one = subst (λ (x : NamedPart). (slice_get parts x.index ≡ Some (named_of x)) × (has_other_layout w x.image x.range x.layout ≡ true)) (sym one.0) (at, one.1)
wrong_in w parts n (wrong.Transition t) at one = absurd one

-- what a region of an image copy writes, behind all that the regions read
pub written_in : (w : World) (read : List Named) (gs : List ImageCopy) (i l k : ℕ) (g : ImageCopy) (n : NamedPart) (s : WrongLayout) → length read ≡ length gs → slice_get gs k ≡ Some g → n.index ≡ length gs + k → destination_part i l g ≡ named_of n → IsWrongOne w n s
    → IsWrongPart w (read ++ map (destination_part i l) gs) s
written_in w read gs i l k g n s same at is part one =
    let behind : n.index ≡ length read + k = omega arith in
    wrong_in w (read ++ map (destination_part i l) gs) n s (get_after read (map (destination_part i l) gs) n.index k behind ∙ get_mapped (destination_part i l) gs k g at ∙ ap Some part) one
