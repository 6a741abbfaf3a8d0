-- What titles say of faults.
use Rattle.std.proofs.Common.{◌≡◌, ◌≤◌, ◌<◌, ◌+◌, ◌-◌, ◌&&◌, if◌then◌else◌, ℕ, Bool, true, false, ltb, subst, Option, Some, None, List, [], ◌∷◌, ◌++◌, map, length, take, drop, get_or, refl, sym, ap, ap₂, ◌∙◌, arith}
use Rattle.std.specs.List.{flat_map, slice_get, slice_range}
use Rattle.std.specs.Prelude.{codes}
use Rattle.std.specs.Cmp.Lexicographic.{same_text}
use Rattle.std.proofs.lemmas.Bool.{ltb-false, ltb-true}
use Rattle.std.proofs.lemmas.Option.{slice_get_past, slice_get_read}
use Rattle.std.proofs.lemmas.Grind.{flat_map-append}
use Rattle.std.proofs.lemmas.List.{append-nil, append_assoc, drop-map, get_or-drop, length-drop, length-map, length-take-le, take-map, take_more}
use denote.Enum.Bare.{sameb}
use Rattle.pci_picture.specs.Lines.{nth_word, says}
use Rattle.pci_picture.specs.Marks.{key_of_region, look_of_part, word_of_part}
use Rattle.pci_picture.specs.Named.{words_of_buses}
use Rattle.pci_picture.specs.Roots.{Listed}
use Rattle.pci_picture.specs.Said.{lines_of_fault, said_lines}
use Rattle.pci_picture.specs.Titles.{buses_if_listed, function_of_region, says_free, says_window, name_if_listed, said_below, said_of_function, said_of_window}
use Rattle.pci_picture.specs.contracts.region.Part.{the_type}
use Rattle.pci_picture.specs.declared.faults.Fault.{Fault}
use Rattle.pci_picture.specs.declared.faults.Faults.{Faults}
use Rattle.pci_picture.specs.declared.faults.Naming.{Naming}
use Rattle.pci_picture.specs.declared.function.Buses.{Buses}
use Rattle.pci_picture.specs.declared.region.Part.TheVariants.{Bar, Prefetchable, Rom, Window, Told, Held, Free}
use Rattle.pci_picture.specs.declared.region.Part.{Part}

-- ---- the lines of a fault

abbrev pub said_of_naming : {A : Type 0} → Faults A → Naming → List ℕ
said_of_naming faults naming = said_lines (lines_of_fault faults (slice_get faults.faults.items naming.fault))

pub first_line : (line : List ℕ) → drop 1 (said_lines (line ∷ [])) ≡ line
first_line line = append-nil line

pub next_line : (lines : List (List ℕ)) (line : List ℕ) → 0 < length lines → drop 1 (said_lines (lines ++ line ∷ [])) ≡ drop 1 (said_lines lines) ++ 10 ∷ line
next_line [] line long = absurd (omega (arith, long))
next_line (first ∷ lines) line long =
    ap (λ l. first ++ l) (flat_map-append (λ l. 10 ∷ l) lines (line ∷ []) ∙ ap (λ l. said_lines lines ++ 10 ∷ l) (append-nil line))
    ∙ sym (append_assoc first (said_lines lines) (10 ∷ line))

pub feed_before : (lines : List (List ℕ)) → 0 < length lines → said_lines lines ≡ 10 ∷ drop 1 (said_lines lines)
feed_before [] long = absurd (omega (arith, long))
feed_before (first ∷ lines) long = refl

-- ---- the lines of a fault that is being written

range_long : {X : Type 0} (xs : List X) (begin end : ℕ) → end ≤ length xs → length (slice_range xs begin end) ≡ end - begin
range_long xs begin end inside =
    let long : length (drop begin xs) ≡ length xs - begin = length-drop begin xs in
    length-take-le (end - begin) (drop begin xs) (omega (arith, long, inside))

pub more_of_range : (lines : List (List ℕ)) (begin index : ℕ) → begin ≤ index → index < length lines
    → slice_range lines begin (index + 1) ≡ slice_range lines begin index ++ get_or lines index [] ∷ []
more_of_range lines begin index from inside =
    let all = drop begin lines in
    let long : length all ≡ length lines - begin = length-drop begin lines in
    let one : index + 1 - begin ≡ index - begin + 1 = omega (arith, from) in
    let at : begin + (index - begin) ≡ index = omega (arith, from) in
    ap (λ n. take n all) one ∙ take_more all (index - begin) [] (omega (arith, from, inside, long))
    ∙ ap (λ l. take (index - begin) all ++ l ∷ []) (get_or-drop begin lines (index - begin) [] ∙ ap (λ i. get_or lines i []) at)

pub line_first : (lines : List (List ℕ)) (begin index : ℕ) (line start before after : List ℕ) → index ≡ begin → index < length lines → line ≡ get_or lines index []
    → before ≡ start ++ drop 1 (said_lines (slice_range lines begin index)) → after ≡ before ++ line
    → after ≡ start ++ drop 1 (said_lines (slice_range lines begin (index + 1)))
line_first lines begin index line start before after same inside is said adds =
    let none : index - begin ≡ 0 = omega (arith, same) in
    let empty : slice_range lines begin index ≡ [] = ap (λ n. take n (drop begin lines)) none in
    adds ∙ ap (λ l. l ++ line) (said ∙ ap (λ l. start ++ drop 1 (said_lines l)) empty ∙ append-nil start)
    ∙ ap (λ l. start ++ l) (sym (first_line line) ∙ ap (λ l. drop 1 (said_lines (l ∷ []))) is
    ∙ ap (λ l. drop 1 (said_lines l)) (sym (more_of_range lines begin index (omega (arith, same)) inside ∙ ap (λ l. l ++ get_or lines index [] ∷ []) empty)))

pub line_next : (lines : List (List ℕ)) (begin index : ℕ) (line start before between after : List ℕ) → begin < index → index < length lines → line ≡ get_or lines index []
    → before ≡ start ++ drop 1 (said_lines (slice_range lines begin index)) → between ≡ before ++ 10 ∷ [] → after ≡ between ++ line
    → after ≡ start ++ drop 1 (said_lines (slice_range lines begin (index + 1)))
line_next lines begin index line start before between after from inside is said feed adds =
    let range = slice_range lines begin index in
    let long : length range ≡ index - begin = range_long lines begin index (omega (arith, inside)) in
    adds ∙ ap (λ l. l ++ line) (feed ∙ ap (λ l. l ++ 10 ∷ []) said)
    ∙ append_assoc (start ++ drop 1 (said_lines range)) (10 ∷ []) line
    ∙ append_assoc start (drop 1 (said_lines range)) (10 ∷ line)
    ∙ ap (λ l. start ++ l) (sym (next_line range line (omega (arith, long, from))) ∙ ap (λ l. drop 1 (said_lines (range ++ l ∷ []))) is
    ∙ ap (λ l. drop 1 (said_lines l)) (sym (more_of_range lines begin index (omega (arith, from)) inside)))

pub range_of_map : {X : Type 0} (now : X → List ℕ) (items : List X) (begin index end : ℕ) → index - begin ≡ end - begin
    → slice_range (map now items) begin index ≡ map now (take (end - begin) (drop begin items))
range_of_map now items begin index end same =
    ap (λ n. take n (drop begin (map now items))) same ∙ ap (take (end - begin)) (drop-map now begin items) ∙ take-map now (end - begin) (drop begin items)

-- a fault with lines
pub fault_said : {X : Type 0} (now : X → List ℕ) (items : List X) (begin end : ℕ) (before between after : List ℕ) → begin < end → end ≤ length items
    → between ≡ before ++ 10 ∷ []
    → (end ≤ length items → after ≡ between ++ drop 1 (said_lines (map now (take (end - begin) (drop begin items)))))
    → after ≡ before ++ said_lines (map now (take (end - begin) (drop begin items)))
fault_said now items begin end before between after some inside feed adds =
    let lines = map now (take (end - begin) (drop begin items)) in
    let long : length lines ≡ end - begin = length-map (take (end - begin) (drop begin items)) now ∙ range_long items begin end inside in
    adds inside ∙ ap (λ l. l ++ drop 1 (said_lines lines)) feed ∙ append_assoc before (10 ∷ []) (drop 1 (said_lines lines))
    ∙ ap (λ l. before ++ l) (sym (feed_before lines (omega (arith, long, some))))

-- what is said of one naming more
naming_more : {X : Type 0} (f : X → List ℕ) (xs : List X) (i : ℕ) (x d : X) → i < length xs → x ≡ get_or xs i d
    → flat_map f (take i xs) ++ f x ≡ flat_map f (take (i + 1) xs)
naming_more f xs i x d inside at =
    sym (ap (flat_map f) (take_more xs i d inside) ∙ flat_map-append f (take i xs) (get_or xs i d ∷ [])
    ∙ ap (λ l. flat_map f (take i xs) ++ l) (append-nil (f (get_or xs i d)) ∙ ap f (sym at)))

-- what `get` gives
pub fault_found : {A : Type 0} (faults : Faults A) (all : List Fault) (i : ℕ) (fault : Fault) → all ≡ faults.faults.items → true ≡ ltb i (length all) → fault ≡ get_or all i fault
    → (slice_get faults.faults.items i ≡ Some fault) × ((fault.begin < fault.end) × (fault.end ≤ length faults.lines.items))
fault_found faults all i fault same inside at =
    let items = faults.faults.items in
    let lt : i < length items = subst (λ l. i < length l) same (ltb-true i (length all) (sym inside)) in
    let is : fault ≡ get_or items i fault = at ∙ ap (λ l. get_or l i fault) same in (
      slice_get_read items (length items) i fault refl lt is,
      subst (λ f. (f.begin < f.end) × (f.end ≤ length faults.lines.items)) (sym is) (faults.within i fault lt),
    )

pub fault_missing : (all items : List Fault) (i : ℕ) → all ≡ items → false ≡ ltb i (length all) → slice_get items i ≡ None
fault_missing all items i same past = slice_get_past items i (subst (λ l. length l ≤ i) same (ltb-false i (length all) (sym past)))

pub said_more : {A : Type 0} (faults : Faults A) (namings : List Naming) (index : ℕ) (naming d : Naming) (fault : Fault) (old before between after : List ℕ)
    → index < length namings → naming ≡ get_or namings index d → before ≡ old ++ flat_map (said_of_naming faults) (take index namings)
    → (slice_get faults.faults.items naming.fault ≡ Some fault) × ((fault.begin < fault.end) × (fault.end ≤ length faults.lines.items))
    → between ≡ before ++ 10 ∷ []
    → (fault.end ≤ length faults.lines.items → after ≡ between ++ drop 1 (said_lines (lines_of_fault faults (Some fault))))
    → after ≡ old ++ flat_map (said_of_naming faults) (take (index + 1) namings)
said_more faults namings index naming d fault old before between after inside at said found feed put =
    let some = flat_map (said_of_naming faults) (take index namings) in
    fault_said (λ line. line.now) faults.lines.items fault.begin fault.end before between after (found.1.0) (found.1.1) feed put
    ∙ ap (λ o. before ++ said_lines (lines_of_fault faults o)) (sym (found.0))
    ∙ ap (λ l. l ++ said_of_naming faults naming) said ∙ append_assoc old some (said_of_naming faults naming)
    ∙ ap (λ l. old ++ l) (naming_more (said_of_naming faults) namings index naming d inside at)

pub said_none : {A : Type 0} (faults : Faults A) (namings : List Naming) (index : ℕ) (naming d : Naming) (old before : List ℕ)
    → index < length namings → naming ≡ get_or namings index d → before ≡ old ++ flat_map (said_of_naming faults) (take index namings)
    → slice_get faults.faults.items naming.fault ≡ None → before ≡ old ++ flat_map (said_of_naming faults) (take (index + 1) namings)
said_none faults namings index naming d old before inside at said none =
    let some = flat_map (said_of_naming faults) (take index namings) in
    said
    ∙ ap (λ l. old ++ l)
    (sym (ap (λ o. some ++ said_lines (lines_of_fault faults o)) none ∙ append-nil some)
    ∙ naming_more (said_of_naming faults) namings index naming d inside at)

-- ---- what is free, and what is a window

true_false : true ≡ false → ⊥
true_false is = cc

free_by_word : (part : Part) → sameb the_type part Free ≡ says (word_of_part part) (codes "free")
free_by_word Bar = refl
free_by_word Prefetchable = refl
free_by_word Rom = refl
free_by_word Window = refl
free_by_word Told = refl
free_by_word Held = refl
free_by_word Free = refl

window_by_word : (part : Part) → sameb the_type part Window ≡ says (word_of_part part) (codes "window")
window_by_word Bar = refl
window_by_word Prefetchable = refl
window_by_word Rom = refl
window_by_word Window = refl
window_by_word Told = refl
window_by_word Held = refl
window_by_word Free = refl

told_by_word : (part : Part) → sameb the_type part Told ≡ says (word_of_part part) (codes "told")
told_by_word Bar = refl
told_by_word Prefetchable = refl
told_by_word Rom = refl
told_by_word Window = refl
told_by_word Told = refl
told_by_word Held = refl
told_by_word Free = refl

held_by_word : (part : Part) → sameb the_type part Held ≡ says (word_of_part part) (codes "held")
held_by_word Bar = refl
held_by_word Prefetchable = refl
held_by_word Rom = refl
held_by_word Window = refl
held_by_word Told = refl
held_by_word Held = refl
held_by_word Free = refl

-- a word that is neither `bar` nor `pref` is the third one where the look of a part has it
word_by_look : (words : List (List ℕ)) (word : List ℕ) → says (codes "bar") word ≡ false → says (codes "pref") word ≡ false
    → says (look_of_part words) word ≡ says (nth_word words 2) word
unfolding look_of_part
word_by_look words word no_bar no_pref = go (says (nth_word words 2) (codes "bar")) (says (nth_word words 3) (codes "pref")) refl
  where
    go : (bar pref : Bool) → bar ≡ says (nth_word words 2) (codes "bar")
        → says (if bar && pref then codes "pref" else nth_word words 2) word ≡ says (nth_word words 2) word
    go true true is = no_pref ∙ sym (ap (λ w. says w word) (same_text (nth_word words 2) (codes "bar") is) ∙ no_bar)
    go true false is = refl
    go false pref is = refl

-- a part is free or a window where the third word of its line is
pub part_free : (part : Part) (words : List (List ℕ)) → word_of_part part ≡ look_of_part words → sameb the_type part Free ≡ says_free words
part_free part words looks = free_by_word part ∙ ap (λ w. says w (codes "free")) looks ∙ word_by_look words (codes "free") refl refl

pub part_window : (part : Part) (words : List (List ℕ)) → word_of_part part ≡ look_of_part words → sameb the_type part Window ≡ says_window words
part_window part words looks = window_by_word part ∙ ap (λ w. says w (codes "window")) looks ∙ word_by_look words (codes "window") refl refl

pub part_told : (part : Part) (words : List (List ℕ)) → word_of_part part ≡ look_of_part words → sameb the_type part Told ≡ says (nth_word words 2) (codes "told")
part_told part words looks = told_by_word part ∙ ap (λ w. says w (codes "told")) looks ∙ word_by_look words (codes "told") refl refl

pub part_held : (part : Part) (words : List (List ℕ)) → word_of_part part ≡ look_of_part words → sameb the_type part Held ≡ says (nth_word words 2) (codes "held")
part_held part words looks = held_by_word part ∙ ap (λ w. says w (codes "held")) looks ∙ word_by_look words (codes "held") refl refl

-- the same of a part that is known

pub is_free : (part : Part) (words : List (List ℕ)) → word_of_part part ≡ look_of_part words → part ≡ Free → says_free words ≡ true
is_free part words looks is = sym (part_free part words looks) ∙ ap (λ p. sameb the_type p Free) is

pub is_window : (part : Part) (words : List (List ℕ)) → word_of_part part ≡ look_of_part words → part ≡ Window → says_window words ≡ true
is_window part words looks is = sym (part_window part words looks) ∙ ap (λ p. sameb the_type p Window) is

pub window_isnt_free : (part : Part) (words : List (List ℕ)) → word_of_part part ≡ look_of_part words → part ≡ Window → says_free words ≡ false
window_isnt_free part words looks is = sym (part_free part words looks) ∙ ap (λ p. sameb the_type p Free) is

other_free : (part : Part) → (part ≡ Free → ⊥) → sameb the_type part Free ≡ false
other_free Bar other = refl
other_free Prefetchable other = refl
other_free Rom other = refl
other_free Window other = refl
other_free Told other = refl
other_free Held other = refl
other_free Free other = absurd (other refl)

other_window : (part : Part) → (part ≡ Window → ⊥) → sameb the_type part Window ≡ false
other_window Bar other = refl
other_window Prefetchable other = refl
other_window Rom other = refl
other_window Window other = absurd (other refl)
other_window Told other = refl
other_window Held other = refl
other_window Free other = refl

pub isnt_free : (part : Part) (words : List (List ℕ)) → word_of_part part ≡ look_of_part words → (part ≡ Free → ⊥) → says_free words ≡ false
isnt_free part words looks other = sym (part_free part words looks) ∙ other_free part other

pub isnt_window : (part : Part) (words : List (List ℕ)) → word_of_part part ≡ look_of_part words → (part ≡ Window → ⊥) → says_window words ≡ false
isnt_window part words looks other = sym (part_window part words looks) ∙ other_window part other

-- ---- titles

-- the lines of faults begin behind what is said of a window
pub no_window : (words : List (List ℕ)) (old : List ℕ) (buses : Option Buses) → says_window words ≡ false → old ≡ (old ++ said_of_window words buses) ++ []
no_window words old buses other =
    sym (append-nil (old ++ said_of_window words buses) ∙ ap (λ b. old ++ (if b then 10 ∷ (codes "to " ++ words_of_buses buses) else [])) other ∙ append-nil old)

pub window_put : (words : List (List ℕ)) (old between after : List ℕ) (buses : Option Buses) → says_window words ≡ true → between ≡ old ++ 10 ∷ codes "to "
    → after ≡ between ++ words_of_buses buses → after ≡ (old ++ said_of_window words buses) ++ []
window_put words old between after buses is to put =
    put ∙ ap (λ l. l ++ words_of_buses buses) to ∙ append_assoc old (10 ∷ codes "to ") (words_of_buses buses)
    ∙ sym (append-nil (old ++ said_of_window words buses) ∙ ap (λ b. old ++ (if b then 10 ∷ (codes "to " ++ words_of_buses buses) else [])) is)

pub free_title : (functions : List Listed) (said : ℕ → List ℕ) (words : List (List ℕ)) (line title : List ℕ) → says_free words ≡ true → title ≡ line
    → title ≡ line ++ said_below functions said words
free_title functions said words line title free is =
    is
    ∙ sym (ap (λ b. line ++ (if b then [] else 10 ∷ (said_of_function functions words ++ said (key_of_region words)))) free ∙ append-nil line)

pub other_title : (functions : List Listed) (said : ℕ → List ℕ) (words : List (List ℕ)) (line name about first feed named title : List ℕ) → says_free words ≡ false
    → name ≡ name_if_listed (function_of_region functions words)
    → about ≡ said_of_window words (buses_if_listed (function_of_region functions words)) ++ said (key_of_region words)
    → first ≡ line → feed ≡ first ++ 10 ∷ [] → named ≡ feed ++ name → title ≡ named ++ about → title ≡ line ++ said_below functions said words
other_title functions said words line name about first feed named title other is_name is_about begins is_feed is_named is =
    let function = function_of_region functions words in
    let window = said_of_window words (buses_if_listed function) in
    is ∙ ap (λ l. l ++ about) (is_named ∙ ap (λ l. l ++ name) (is_feed ∙ ap (λ l. l ++ 10 ∷ []) begins))
    ∙ append_assoc (line ++ 10 ∷ []) name about ∙ append_assoc line (10 ∷ []) (name ++ about)
    ∙ ap₂ (λ n a. line ++ 10 ∷ (n ++ a)) is_name is_about
    ∙ ap (λ l. line ++ 10 ∷ l) (sym (append_assoc (name_if_listed function) window (said (key_of_region words))))
    ∙ sym (ap (λ b. line ++ (if b then [] else 10 ∷ (said_of_function functions words ++ said (key_of_region words)))) other)
