-- Texts in colours, one after another.
use Rattle.std.proofs.Common.{◌≡◌, ℕ, List, [], ◌∷◌, ◌++◌, refl, ap, sym, ◌∙◌, append_assoc}
use Rattle.std.proofs.lemmas.List.{append-nil}
use Rattle.std.proofs.lemmas.Grind.{flat_map-append}
use Rattle.std.specs.List.{flat_map}
use Rattle.vk_explain.specs.declared.colours.Style.{Style}
use Rattle.vk_explain.specs.declared.colours.Style.TheVariants.{Plain}
use Rattle.vk_explain.specs.Colours.{styled, words_of, seen_of, IsColoured}
use Rattle.vk_explain.specs.Inner.Coloured.{IsBegun, IsAdded}

-- words of one style
pub piece : (s : Style) (w : List ℕ) → IsColoured w (styled s w)
piece s w = record { pieces = (s, w) ∷ []; words = append-nil w; seen = append-nil (styled s w) }

-- two texts
pub joined : (a b x y : List ℕ) → IsColoured a x → IsColoured b y → IsColoured (a ++ b) (x ++ y)
joined a b x y f g = record {
  pieces = f.pieces ++ g.pieces;
  words = flat_map-append words_of f.pieces g.pieces ∙ (ap (λ l. l ++ flat_map words_of g.pieces) f.words ∙ ap (λ l. a ++ l) g.words);
  seen = flat_map-append seen_of f.pieces g.pieces ∙ (ap (λ l. l ++ flat_map seen_of g.pieces) f.seen ∙ ap (λ l. x ++ l) g.seen);
}

-- nothing was added so far
pub begun : (text : List ℕ) → IsBegun text [] text
begun text = record { done = []; whole = refl; coloured = record { pieces = []; words = refl; seen = refl } }

-- a line more
pub begun_more : (text old new rest line after : List ℕ) → IsBegun text old rest → rest ≡ line ++ after → IsAdded old line new → IsBegun text new after
begun_more text old new rest line after b split (shown, colours, added) =
    record {
      done = b.done ++ line;
      whole = append_assoc b.done line after ∙ (ap (λ l. b.done ++ l) (sym split) ∙ b.whole);
      coloured = rw added (joined b.done line old shown b.coloured colours);
    }

-- the whole text
pub begun_whole : (text shown rest : List ℕ) → IsBegun text shown rest → rest ≡ [] → IsColoured text shown
begun_whole text shown rest b none =
    let e : b.done ≡ text = sym (append-nil b.done) ∙ (ap (λ l. b.done ++ l) (sym none) ∙ b.whole) in
    rw (← e) b.coloured

-- a line in three pieces
pub added_line : (s : Style) (old one two new line front rest words back : List ℕ) → line ≡ front ++ rest → rest ≡ words ++ back
    → one ≡ old ++ styled Plain front → two ≡ one ++ styled s words → new ≡ two ++ styled Plain back → IsAdded old line new
added_line s old one two new line front rest words back split again first second third =
    let colours = joined front (words ++ back) (styled Plain front) (styled s words ++ styled Plain back) (piece Plain front)
    (joined words back (styled s words) (styled Plain back) (piece s words) (piece Plain back)) in
    let whole : line ≡ front ++ (words ++ back) = split ∙ ap (λ l. front ++ l) again in
    let added : new ≡ old ++ (styled Plain front ++ (styled s words ++ styled Plain back)) =
    third ∙ (ap (λ l. l ++ styled Plain back) (second ∙ ap (λ l. l ++ styled s words) first)
    ∙ (append_assoc (old ++ styled Plain front) (styled s words) (styled Plain back) ∙ append_assoc old (styled Plain front) (styled s words ++ styled Plain back))) in
    (styled Plain front ++ (styled s words ++ styled Plain back), rw whole colours, added)
