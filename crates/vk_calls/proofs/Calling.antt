-- Texts with calls, one after another.
use Rattle.std.proofs.Common.{◌≡◌, ℕ, List, [], ◌∷◌, ◌++◌, Bool, true, false, Option, Some, None, take, drop, length, nat_eq, refl, ap, sym, ◌∙◌, append_assoc}
use Rattle.std.proofs.lemmas.List.{take-append-drop}
use Rattle.std.specs.Cmp.Lexicographic.{pointwise, same_text}
use Rattle.std.proofs.lemmas.List.{append-nil}
use Rattle.std.proofs.lemmas.Grind.{flat_map-append}
use Rattle.std.specs.List.{flat_map}
use Rattle.serde_json.specs.Data.{Data}
use Rattle.vk_model.specs.declared.rule.At.{At}
use Rattle.vk_words.specs.Points.{at_text}
use Rattle.vk_calls.specs.Calls.{call_in}
use Rattle.vk_calls.specs.CalledText.{IsCalled, words_of, shown_of, name_text, called_name}
use Rattle.vk_calls.specs.Inner.Adding.{IsAdded, IsBegun, call_unless}

-- words, and the name of a point behind them
pub piece : (d : Data) (w : List ℕ) (o : Option At) → IsCalled d (w ++ name_text o) (w ++ called_name d o)
piece d w o = record { pieces = (w, o) ∷ []; words = append-nil (w ++ name_text o); seen = append-nil (w ++ called_name d o) }

-- words alone
pub plain : (d : Data) (w : List ℕ) → IsCalled d w w
plain d w = rw (append-nil w) at (piece d w None)

-- two texts
pub joined : (d : Data) (a b x y : List ℕ) → IsCalled d a x → IsCalled d b y → IsCalled d (a ++ b) (x ++ y)
joined d a b x y f g = record {
  pieces = f.pieces ++ g.pieces;
  words = flat_map-append words_of f.pieces g.pieces ∙ (ap (λ l. l ++ flat_map words_of g.pieces) f.words ∙ ap (λ l. a ++ l) g.words);
  seen = flat_map-append (shown_of d) f.pieces g.pieces ∙ (ap (λ l. l ++ flat_map (shown_of d) g.pieces) f.seen ∙ ap (λ l. x ++ l) g.seen);
}

-- a text is added as it is
pub added_plain : (d : Data) (old text : List ℕ) → IsAdded d old text (old ++ text)
added_plain d old text = (text, plain d text, refl)

-- one is added behind another
pub added_more : (d : Data) (old a mid b new : List ℕ) → IsAdded d old a mid → IsAdded d mid b new → IsAdded d old (a ++ b) new
added_more d old a mid b new (x, f, e) (y, g, h) =
    (x ++ y, joined d a b x y f g, h ∙ (ap (λ l. l ++ y) e ∙ append_assoc old x y))

-- nothing was added so far
pub begun : (d : Data) (text old : List ℕ) → IsBegun d text old old text
begun d text old = record { done = []; whole = refl; added = ([], plain d [], sym (append-nil old)) }

-- a part more
pub begun_more : (d : Data) (text old mid new rest part after : List ℕ) → IsBegun d text old mid rest → rest ≡ part ++ after → IsAdded d mid part new → IsBegun d text old new after
begun_more d text old mid new rest part after b split more = record {
  done = b.done ++ part;
  whole = append_assoc b.done part after ∙ (ap (λ l. b.done ++ l) (sym split) ∙ b.whole);
  added = added_more d old b.done mid part new b.added more;
}

-- the rest, as it is
pub begun_whole : (d : Data) (text old mid rest : List ℕ) → IsBegun d text old mid rest → IsAdded d old text (mid ++ rest)
begun_whole d text old mid rest b = rw (sym b.whole) (added_more d old b.done mid rest (mid ++ rest) b.added (added_plain d mid rest))

-- a text that begins with a name
pub behind : (text name prefix after : List ℕ) → prefix ≡ name → pointwise nat_eq (take (length prefix) text) prefix ≡ true → after ≡ drop (length prefix) text → text ≡ name ++ after
behind text name prefix after same equal rest =
    sym (take-append-drop (length prefix) text) ∙ (ap (λ l. l ++ drop (length prefix) text) (same_text _ _ (sym equal) ∙ same) ∙ ap (λ l. name ++ l) (sym rest))

-- words, the name of a point, and its call unless it was said
pub added_named : (d : Data) (old front : List ℕ) (at : At) (is_said : Bool) (mid name new : List ℕ) → mid ≡ old ++ front → name ≡ at_text at ++ call_unless is_said (call_in d at) → new ≡ mid ++ name → IsAdded d old (front ++ at_text at) new
added_named d old front at true mid name new e f g = (front ++ at_text at, plain d (front ++ at_text at), g ∙ (ap (λ l. mid ++ l) (f ∙ append-nil (at_text at)) ∙ (ap (λ l. l ++ at_text at) e ∙ append_assoc old front (at_text at))))
added_named d old front at false mid name new e f g = (front ++ called_name d (Some at), piece d front (Some at), g ∙ (ap (λ l. mid ++ l) f ∙ (ap (λ l. l ++ called_name d (Some at)) e ∙ append_assoc old front (called_name d (Some at)))))

-- an explanation, part by part
pub called_parts : (d : Data) (text v s r n a b c e : List ℕ) → text ≡ v ++ (s ++ (r ++ n)) → a ≡ v → IsAdded d a s b → c ≡ b ++ r → IsAdded d c n e → IsCalled d text e
called_parts d text v s r n a b c e whole first (x, f, g) second (y, h, i) =
    let all : e ≡ v ++ (x ++ (r ++ y)) = i ∙ (ap (λ l. l ++ y) (second ∙ ap (λ l. l ++ r) (g ∙ ap (λ l. l ++ x) first)) ∙ (append_assoc (v ++ x) r y ∙ append_assoc v x (r ++ y))) in
    rw (whole, all) (joined d v (s ++ (r ++ n)) v (x ++ (r ++ y)) (plain d v) (joined d s (r ++ n) x (r ++ y) f (joined d r n r y (plain d r) h)))
