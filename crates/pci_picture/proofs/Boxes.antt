-- What is added to a canvas, one element behind the other.
use Rattle.std.proofs.Common.{◌≡◌, ◌≤◌, arith, ℕ, Bool, List, [], ◌∷◌, ◌++◌, map, refl, sym, ap, subst, ◌∙◌, Result, Ok, Err, IfOk}
use Rattle.std.proofs.lemmas.List.{append_assoc, append-nil}
use Rattle.std.proofs.lemmas.List.Concat.{flat_map-append}
use Rattle.std.specs.List.{flat_map}
use Rattle.std.specs.String.{string_bytes}
use Rattle.pci_picture.specs.Elements.{box_text, words_text, axis_text, tick_text, gap_text}
use Rattle.pci_picture.specs.Boxes.{HasTitles, no_element, a_box, a_line, at_axis, a_tick, a_gap, Titled, titled, titled_line, titled_spot, HasSpots, AreDrawn, IsDrawnOf}
use Rattle.pci_picture.specs.Spots.{BoxSpot, spot_at}
use Rattle.pci_picture.specs.Whole.{picture_text}
use Rattle.pci_picture.specs.Canvases.{HasDrawn, AddsToCanvas, AddsBoxOf, AddsSome, DrawsBytes, WritesBytes}
use Rattle.pci_picture.specs.declared.canvas.Canvas.{Canvas}

-- boxes behind boxes
pub titles_append : (s t : List Titled) (a b : List ℕ) → HasTitles s a → HasTitles t b → HasTitles (s ++ t) (a ++ b)
titles_append _ t _ b no_element h = h
titles_append _ t _ b (a_box x y width height class anchor title rest titles r) h =
    subst (HasTitles (titled x y width height class title ∷ (titles ++ t))) (sym (append_assoc (box_text x y width height class anchor title) rest b))
    (a_box x y width height class anchor title (rest ++ b) (titles ++ t) (titles_append titles t rest b r h))
titles_append _ t _ b (a_line x y class line rest titles r) h =
    subst (HasTitles (titles ++ t)) (sym (append_assoc (words_text x y class line) rest b))
    (a_line x y class line (rest ++ b) (titles ++ t) (titles_append titles t rest b r h))
titles_append _ t _ b (at_axis x y faint line rest titles r) h =
    subst (HasTitles (titles ++ t)) (sym (append_assoc (axis_text x y faint line) rest b))
    (at_axis x y faint line (rest ++ b) (titles ++ t) (titles_append titles t rest b r h))
titles_append _ t _ b (a_tick x y rest titles r) h =
    subst (HasTitles (titles ++ t)) (sym (append_assoc (tick_text x y) rest b))
    (a_tick x y (rest ++ b) (titles ++ t) (titles_append titles t rest b r h))
titles_append _ t _ b (a_gap x y to rest titles r) h =
    subst (HasTitles (titles ++ t)) (sym (append_assoc (gap_text x y to) rest b))
    (a_gap x y to (rest ++ b) (titles ++ t) (titles_append titles t rest b r h))

-- ---- one element alone

pub box_titles : (x y width height : ℕ) (class anchor title : List ℕ) → HasTitles (titled x y width height class title ∷ []) (box_text x y width height class anchor title)
box_titles x y width height class anchor title =
    subst (HasTitles (titled x y width height class title ∷ [])) (append-nil (box_text x y width height class anchor title))
    (a_box x y width height class anchor title [] [] no_element)

pub words_titles : (x y : ℕ) (class line : List ℕ) → HasTitles [] (words_text x y class line)
words_titles x y class line =
    subst (HasTitles []) (append-nil (words_text x y class line)) (a_line x y class line [] [] no_element)

pub axis_titles : (x y : ℕ) (faint line : List ℕ) → HasTitles [] (axis_text x y faint line)
axis_titles x y faint line =
    subst (HasTitles []) (append-nil (axis_text x y faint line)) (at_axis x y faint line [] [] no_element)

pub tick_titles : (x y : ℕ) → HasTitles [] (tick_text x y)
tick_titles x y = subst (HasTitles []) (append-nil (tick_text x y)) (a_tick x y [] [] no_element)

pub gap_titles : (x y to : ℕ) → HasTitles [] (gap_text x y to)
gap_titles x y to = subst (HasTitles []) (append-nil (gap_text x y to)) (a_gap x y to [] [] no_element)

-- ---- regions of boxes

pub spots_append : (s t : List BoxSpot) (a b : List ℕ) → HasSpots s a → HasSpots t b → HasSpots (s ++ t) (a ++ b)
spots_append s t a b h k = record {
  boxes = h.boxes ++ k.boxes;
  has = titles_append h.boxes k.boxes a b h.has k.has;
  first = flat_map-append titled_spot h.boxes k.boxes ∙ ap (λ l. l ++ flat_map titled_spot k.boxes) h.first ∙ ap (λ l. s ++ l) k.first;
}

bare_spots : (a : List ℕ) → HasTitles [] a → HasSpots [] a
bare_spots a h = record { boxes = []; has = h; first = refl }

box_spots : (x y width height : ℕ) (class anchor title : List ℕ) → HasSpots (titled_spot (titled x y width height class title)) (box_text x y width height class anchor title)
box_spots x y width height class anchor title = record {
  boxes = titled x y width height class title ∷ [];
  has = box_titles x y width height class anchor title;
  first = append-nil (titled_spot (titled x y width height class title));
}

-- ---- canvases

pub added_box : {A : Type 0} (x y width height : ℕ) (class anchor title : List ℕ) (before after : Canvas A) (empty element : List ℕ)
    → empty ≡ [] → element ≡ empty ++ box_text x y width height class anchor title
    → string_bytes after.boxes ≡ string_bytes before.boxes ++ element → string_bytes after.words ≡ string_bytes before.words
    → AddsToCanvas (titled_spot (titled x y width height class title)) before after
added_box x y width height class anchor title before after empty element none made boxes words = record {
  behind = λ spots drawn.
      let e : element ≡ box_text x y width height class anchor title = made ∙ ap (λ l. l ++ box_text x y width height class anchor title) none in
      record {
        in_boxes = subst (HasSpots (spots ++ titled_spot (titled x y width height class title))) (sym (boxes ∙ ap (λ l. string_bytes before.boxes ++ l) e))
            (spots_append spots (titled_spot (titled x y width height class title)) (string_bytes before.boxes) _ drawn.in_boxes (box_spots x y width height class anchor title));
        in_words = subst (HasTitles []) (sym words) drawn.in_words;
      };
  boxed = element;
  draws = boxes;
  bytes = [];
  writes = words ∙ sym (append-nil (string_bytes before.words));
}

-- an element without a title among the boxes
pub added_bare : {A : Type 0} (made : List ℕ) → HasTitles [] made → (before after : Canvas A) (empty element : List ℕ)
    → empty ≡ [] → element ≡ empty ++ made
    → string_bytes after.boxes ≡ string_bytes before.boxes ++ element → string_bytes after.words ≡ string_bytes before.words
    → AddsToCanvas [] before after
added_bare made bare before after empty element none is boxes words = record {
  behind = λ spots drawn.
      let e : element ≡ made = is ∙ ap (λ l. l ++ made) none in
      record {
        in_boxes = subst (HasSpots (spots ++ [])) (sym (boxes ∙ ap (λ l. string_bytes before.boxes ++ l) e))
            (spots_append spots [] (string_bytes before.boxes) made drawn.in_boxes (bare_spots made bare));
        in_words = subst (HasTitles []) (sym words) drawn.in_words;
      };
  boxed = element;
  draws = boxes;
  bytes = [];
  writes = words ∙ sym (append-nil (string_bytes before.words));
}

-- an element without a title among the words
pub added_words : {A : Type 0} (made : List ℕ) → HasTitles [] made → (before after : Canvas A) (empty element : List ℕ)
    → empty ≡ [] → element ≡ empty ++ made
    → string_bytes after.boxes ≡ string_bytes before.boxes → string_bytes after.words ≡ string_bytes before.words ++ element
    → AddsToCanvas [] before after
added_words made bare before after empty element none is boxes words = record {
  behind = λ spots drawn.
      let e : element ≡ made = is ∙ ap (λ l. l ++ made) none in
      record {
        in_boxes = subst (HasSpots (spots ++ [])) (sym boxes) (subst (λ l. HasSpots l (string_bytes before.boxes)) (sym (append-nil spots)) drawn.in_boxes);
        in_words = subst (HasTitles []) (sym (words ∙ ap (λ l. string_bytes before.words ++ l) e))
            (titles_append [] [] (string_bytes before.words) made drawn.in_words bare);
      };
  boxed = [];
  draws = boxes ∙ sym (append-nil (string_bytes before.boxes));
  bytes = element;
  writes = words;
}

-- the element itself, behind the boxes
pub draws_made : {A : Type 0} (made : List ℕ) (before after : Canvas A) (empty element : List ℕ) → empty ≡ [] → element ≡ empty ++ made
    → string_bytes after.boxes ≡ string_bytes before.boxes ++ element → DrawsBytes made before after
draws_made made before after empty element none is boxes = boxes ∙ ap (λ l. string_bytes before.boxes ++ l) (is ∙ ap (λ l. l ++ made) none)

-- nothing is added
pub unchanged : {A : Type 0} (canvas : Canvas A) → AddsToCanvas [] canvas canvas
unchanged canvas = record {
  behind = λ spots drawn. subst (λ l. HasDrawn l canvas) (sym (append-nil spots)) drawn;
  boxed = [];
  draws = sym (append-nil (string_bytes canvas.boxes));
  bytes = [];
  writes = sym (append-nil (string_bytes canvas.words));
}

-- one after the other
pub then_adds : {A : Type 0} (first second : List BoxSpot) (before between after : Canvas A)
    → AddsToCanvas first before between → AddsToCanvas second between after → AddsToCanvas (first ++ second) before after
then_adds first second before between after one other = record {
  behind = λ spots drawn.
      subst (λ l. HasDrawn l after) (append_assoc spots first second) (other.behind (spots ++ first) (one.behind spots drawn));
  boxed = one.boxed ++ other.boxed;
  draws = other.draws ∙ ap (λ l. l ++ other.boxed) one.draws ∙ append_assoc (string_bytes before.boxes) one.boxed other.boxed;
  bytes = one.bytes ++ other.bytes;
  writes = other.writes ∙ ap (λ l. l ++ other.bytes) one.writes ∙ append_assoc (string_bytes before.words) one.bytes other.bytes;
}

-- nothing, and then some; some, and then nothing
pub then_draws : {A : Type 0} (spots : List BoxSpot) (before between after : Canvas A)
    → AddsToCanvas [] before between → AddsToCanvas spots between after → AddsToCanvas spots before after
then_draws spots before between after one other = then_adds [] spots before between after one other

pub then_keeps : {A : Type 0} (spots : List BoxSpot) (before between after : Canvas A)
    → AddsToCanvas spots before between → AddsToCanvas [] between after → AddsToCanvas spots before after
then_keeps spots before between after one other =
    subst (λ l. AddsToCanvas l before after) (append-nil spots) (then_adds spots [] before between after one other)

-- ---- words behind words

pub writes_none : {A : Type 0} (before after : Canvas A) → string_bytes after.words ≡ string_bytes before.words → WritesBytes [] before after
writes_none before after same = same ∙ sym (append-nil (string_bytes before.words))

pub writes_both : {A : Type 0} (one other : List ℕ) (before between after : Canvas A)
    → WritesBytes one before between → WritesBytes other between after → WritesBytes (one ++ other) before after
writes_both one other before between after first second =
    second ∙ ap (λ l. l ++ other) first ∙ append_assoc (string_bytes before.words) one other

-- boxes behind boxes
pub draws_both : {A : Type 0} (one other : List ℕ) (before between after : Canvas A)
    → DrawsBytes one before between → DrawsBytes other between after → DrawsBytes (one ++ other) before after
draws_both one other before between after first second =
    second ∙ ap (λ l. l ++ other) first ∙ append_assoc (string_bytes before.boxes) one other

-- a line of words, by what they are
pub heading_drawn : {A : Type 0} (x y : ℕ) (before after : Canvas A) (words own told : List ℕ) → words ≡ own → own ≡ told → DrawsBytes (words_text x y [] words) before after
    → DrawsBytes (words_text x y [] told) before after
heading_drawn x y before after words own told same is draws = subst (λ l. DrawsBytes (words_text x y [] l) before after) (same ∙ is) draws

-- at the end of a function, whose last step may fail
pub none_ok : {A T E : Type 0} (result : Result T E) (before between after : Canvas A) → string_bytes between.words ≡ string_bytes before.words
    → IfOk result (λ _. string_bytes after.words ≡ string_bytes between.words) → IfOk result (λ _. WritesBytes [] before after)
none_ok (Err e) before between after one other = tt
none_ok (Ok t) before between after one other = writes_none before after (other ∙ one)

-- nothing, and then some of which something holds
pub then_some : {A : Type 0} (Hold : List BoxSpot → List ℕ → Type 0) (before between after : Canvas A)
    → AddsToCanvas [] before between → WritesBytes [] before between → AddsSome Hold between after → AddsSome Hold before after
then_some Hold before between after one none other = record {
  spots = other.spots;
  bytes = other.bytes;
  hold = other.hold;
  adds = then_draws other.spots before between after one other.adds;
  writes = writes_both [] other.bytes before between after none other.writes;
}

-- a box, and then nothing
pub keeps_box : {A : Type 0} (class said line : List ℕ) (x y width height : ℕ) (before between after : Canvas A)
    → AddsBoxOf class said line x y width height before between → AddsToCanvas [] between after → AddsBoxOf class said line x y width height before after
keeps_box class said line x y width height before between after one other = record {
  title = one.title;
  titled = one.titled;
  adds = then_keeps (spot_at x y width height class one.title line ∷ []) before between after one.adds other;
}

-- nothing is drawn
pub none_spots : (text : List ℕ) → text ≡ [] → HasSpots [] text
none_spots text none = subst (HasSpots []) (sym none) (record { boxes = []; has = no_element; first = refl })

pub none_titles : (text : List ℕ) → text ≡ [] → HasTitles [] text
none_titles text none = subst (HasTitles []) (sym none) no_element

-- the picture of what is drawn
pub drawn_of : {T E : Type 0} (result : Result T E) (bytes : T → List ℕ) (is_told : Bool) (boxes words : List ℕ) (width height : ℕ)
    (spots : List BoxSpot) (head behind : List ℕ) → AreDrawn spots boxes words → boxes ≡ head ++ behind
    → IfOk result (λ t. bytes t ≡ picture_text is_told boxes words width height) → IfOk result (λ t. IsDrawnOf is_told spots head words width height (bytes t))
drawn_of (Err e) bytes is_told boxes words width height spots head behind drawn at is = tt
drawn_of (Ok t) bytes is_told boxes words width height spots head behind drawn at is = record {
  behind = behind;
  drawn =
      subst (λ b. HasSpots spots (b ++ words)) at
      (subst (λ l. HasSpots l (boxes ++ words)) (append-nil spots) (spots_append spots [] boxes words drawn.in_boxes (bare_spots words drawn.in_words)));
  says = is ∙ ap (λ b. picture_text is_told b words width height) at;
}

-- ---- at the end of a function: its last step is a call, which may fail

pub then_ok : {A T E : Type 0} (result : Result T E) (spots : List BoxSpot) (before between after : Canvas A)
    → AddsToCanvas [] before between → IfOk result (λ _. AddsToCanvas spots between after) → IfOk result (λ _. AddsToCanvas spots before after)
then_ok (Err e) spots before between after one other = tt
then_ok (Ok t) spots before between after one other = then_draws spots before between after one other

pub keep_ok : {A T E : Type 0} (result : Result T E) (spots : List BoxSpot) (before between after : Canvas A)
    → AddsToCanvas spots before between → IfOk result (λ _. AddsToCanvas [] between after) → IfOk result (λ _. AddsToCanvas spots before after)
keep_ok (Err e) spots before between after one other = tt
keep_ok (Ok t) spots before between after one other = then_keeps spots before between after one other

-- a box whose title has these lines
pub box_ok : {A T E : Type 0} (result : Result T E) (spots more : List BoxSpot) (before after : Canvas A)
    → more ≡ spots → IfOk result (λ _. AddsToCanvas more before after) → IfOk result (λ _. AddsToCanvas spots before after)
box_ok result spots more before after is adds = subst (λ l. IfOk result (λ _. AddsToCanvas l before after)) is adds

pub adds_same : {A : Type 0} (spots more : List BoxSpot) (before after : Canvas A) → more ≡ spots → AddsToCanvas more before after → AddsToCanvas spots before after
adds_same spots more before after is adds = subst (λ l. AddsToCanvas l before after) is adds

-- a title that begins with no line of a map, and one that does
pub bare_title : (box : Titled) → titled_line box.title ≡ [] → titled_spot box ≡ []
bare_title box none = ap (map (spot_at box.x box.y box.width box.height box.class box.title)) none

pub one_box : {A : Type 0} (box : Titled) (class said line : List ℕ) (before after : Canvas A) → titled_line box.title ≡ line ∷ [] → box.class ≡ class
    → box.title ≡ line ++ said → AddsToCanvas (titled_spot box) before after
    → AddsBoxOf class said line box.x box.y box.width box.height before after
one_box box class said line before after own look says adds = record {
  title = box.title;
  titled = says;
  adds =
      adds_same (spot_at box.x box.y box.width box.height class box.title line ∷ []) (titled_spot box) before after
      (ap (map (spot_at box.x box.y box.width box.height box.class box.title)) own
      ∙ ap (λ k. spot_at box.x box.y box.width box.height k box.title line ∷ []) look)
      adds;
}

-- no height falls
pub up_to : (a b c : ℕ) → a ≤ b → b ≤ c → a ≤ c
up_to a b c low high = omega (arith, low, high)
