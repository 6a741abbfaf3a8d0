-- The list of faults above a picture, line by line.
use Rattle.std.proofs.Common.{◌≡◌, ◌<◌, ◌≤◌, ◌+◌, ◌-◌, ◌*◌, ◌==◌, Bor, Some, ℕ, zero, suc, Bool, true, false, List, [], ◌∷◌, ◌++◌, length, map, take, drop, get_or, refl, sym, ap, subst, ◌∙◌, arith}
use Rattle.std.specs.Prelude.{nat_lt, if◌then◌else◌}
use Rattle.std.proofs.lemmas.Bool.{le-ltb, lt-ltb, ne_eqb}
use Rattle.std.proofs.lemmas.Bool.Decides.{nat_tests}
use Rattle.std.proofs.lemmas.List.{append-nil, append_assoc, drop-map, drop_all, drop_more, get_or-drop, get_or-map, get_or-take, get_or_default, length-append, length-drop, length-map, length-take-le, take-map, take_more}
use Rattle.pci_picture.specs.FaultLines.{FaultLine, bold_line, fault_line, fault_list_text, faults_read, further_line, left_out_line, lines_of_reason, lines_within, list_text}
use Rattle.pci_picture.specs.Labels.{label_text}
use Rattle.pci_picture.specs.Said.{FaultSaid, lines_of_fault}
use Rattle.pci_picture.specs.declared.faults.Fault.{Fault}
use Rattle.pci_picture.specs.declared.faults.Faults.{Faults}

-- one list of lines behind another
pub list_text-append : (y : ℕ) (lines more : List FaultLine) → list_text y (lines ++ more) ≡ list_text y lines ++ list_text (y + 14 * length lines) more
list_text-append y [] more = (let same : y ≡ y + 14 * zero = omega arith in ap (λ n. list_text n more) same)
list_text-append y (line ∷ lines) more =
    let first = label_text line.left (y + 14) line.class line.words in
    let same : y + 14 + 14 * length lines ≡ y + 14 * suc (length lines) = omega arith in
    ap (λ l. first ++ l) (list_text-append (y + 14) lines more ∙ ap (λ n. list_text (y + 14) lines ++ list_text n more) same)
    ∙ sym (append_assoc first (list_text (y + 14) lines) (list_text (y + 14 * suc (length lines)) more))

pub one_more_line : (y : ℕ) (lines : List FaultLine) (line : FaultLine)
    → list_text y (lines ++ line ∷ []) ≡ list_text y lines ++ label_text line.left (y + 14 * length lines + 14) line.class line.words
one_more_line y lines line =
    list_text-append y lines (line ∷ []) ∙ ap (λ l. list_text y lines ++ l) (append-nil (label_text line.left (y + 14 * length lines + 14) line.class line.words))

-- ---- the lines of a fault

pub as_many_lines : (lines : List (List ℕ)) → length (lines_of_reason lines) ≡ length lines
as_many_lines [] = refl
as_many_lines (line ∷ lines) = ap suc (length-map lines further_line)

reason_at : (lines : List (List ℕ)) (k : ℕ) (d : FaultLine) → k < length lines → get_or (lines_of_reason lines) k d ≡ fault_line (k == 0) (get_or lines k [])
reason_at [] k d inside = absurd (omega (arith, inside))
reason_at (line ∷ lines) zero d inside = refl
reason_at (line ∷ lines) (suc k) d inside =
    get_or-map further_line lines k [] d (omega (arith, inside)) ∙ ap (λ b. fault_line b (get_or lines k [])) (sym (ne_eqb (suc k) 0 (λ e. omega (arith, e))))

pub line_there : {A : Type 0} (faults : Faults A) (fault : Fault) (k : ℕ) → k < fault.end - fault.begin
    → get_or (lines_of_fault faults (Some fault)) k [] ≡ get_or (map (λ line. line.now) faults.lines.items) (fault.begin + k) []
line_there faults fault k inside =
    let now = λ (line : Bor (List ℕ)). line.now in
    let count = fault.end - fault.begin in
    let all = map now faults.lines.items in
    ap (λ l. get_or l k []) (sym (take-map now count (drop fault.begin faults.lines.items)) ∙ ap (take count) (sym (drop-map now fault.begin faults.lines.items)))
    ∙ get_or-take count (drop fault.begin all) k [] inside
    ∙ get_or-drop fault.begin all k []

pub many_lines : {A : Type 0} (faults : Faults A) (fault : Fault) → fault.end ≤ length faults.lines.items → length (lines_of_fault faults (Some fault)) ≡ fault.end - fault.begin
many_lines faults fault within =
    let count = fault.end - fault.begin in
    let left = length-drop fault.begin faults.lines.items in
    length-map (take count (drop fault.begin faults.lines.items)) (λ line. line.now)
    ∙ length-take-le count (drop fault.begin faults.lines.items) (omega (arith, within, left))

label_same : (is_first : Bool) (x y : ℕ) (class words : List ℕ) → x ≡ (fault_line is_first []).left → class ≡ (fault_line is_first []).class
    → label_text x y class words ≡ label_text (fault_line is_first words).left y (fault_line is_first words).class words
label_same true x y class words left look = ap (λ n. label_text n y class words) left ∙ ap (λ c. label_text 16 y c words) look
label_same false x y class words left look = ap (λ n. label_text n y class words) left ∙ ap (λ c. label_text 32 y c words) look

same_words : (is_first : Bool) (words : List ℕ) → words ≡ (fault_line is_first words).words
same_words true words = refl
same_words false words = refl

-- one line more of a fault is written
pub fault_line_written : {A : Type 0} (faults : Faults A) (fault : Fault) (above k y x : ℕ) (class words before between after : List ℕ) → fault.end ≤ length faults.lines.items → k < fault.end - fault.begin
    → y ≡ above + 14 * k + 14 → x ≡ (fault_line (k == 0) []).left → class ≡ (fault_line (k == 0) []).class
    → words ≡ get_or (map (λ line. line.now) faults.lines.items) (fault.begin + k) []
    → between ≡ before ++ list_text above (take k (lines_of_reason (lines_of_fault faults (Some fault)))) → after ≡ between ++ label_text x y class words
    → after ≡ before ++ list_text above (take (k + 1) (lines_of_reason (lines_of_fault faults (Some fault))))
fault_line_written faults fault above k y x class words before between after within inside base left look said old new =
    let lines = lines_of_fault faults (Some fault) in
    let all = lines_of_reason lines in
    let none = bold_line [] in
    let count : length lines ≡ fault.end - fault.begin = many_lines faults fault within in
    let long : length all ≡ length lines = as_many_lines lines in
    let at : get_or all k none ≡ fault_line (k == 0) words =
    reason_at lines k none (omega (arith, inside, count)) ∙ ap (fault_line (k == 0)) (line_there faults fault k inside ∙ sym said) in
    let shorter : length (take k all) ≡ k = length-take-le k all (omega (arith, inside, count, long)) in
    let line = fault_line (k == 0) words in
    new ∙ ap (λ l. l ++ label_text x y class words) old
    ∙ append_assoc before (list_text above (take k all)) (label_text x y class words)
    ∙ ap (λ l. before ++ (list_text above (take k all) ++ l))
    (label_same (k == 0) x y class words left look ∙ ap (λ n. label_text line.left n line.class words) (base ∙ ap (λ n. above + 14 * n + 14) (sym shorter))
    ∙ ap (λ w. label_text line.left (above + 14 * length (take k all) + 14) line.class w) (same_words (k == 0) words))
    ∙ ap (λ l. before ++ l) (sym (one_more_line above (take k all) line) ∙ ap (λ l. list_text above (take k all ++ l ∷ [])) (sym at))
    ∙ ap (λ l. before ++ list_text above l) (sym (take_more all k none (omega (arith, inside, count, long))))

pub first_by_place : (place begin : ℕ) → begin ≤ place → (place == begin) ≡ (place - begin == 0)
first_by_place place begin le = grind (arith, nat_tests)

-- ---- the faults one by one

-- the lines of some faults are written, and the rest has so much room
pub record AreListed {A : Type 0} (faults : Faults A) (i room y : ℕ) (before now : List ℕ) : Type 0 where
  pub done : List FaultLine
  pub rest : lines_within 40 (faults_read faults) ≡ done ++ lines_within room (drop i (faults_read faults))
  pub many : length done + room ≡ 40
  pub base : y ≡ 72 + 14 * length done
  pub written : now ≡ before ++ list_text 72 done

pub none_listed : {A : Type 0} (faults : Faults A) (before : List ℕ) → AreListed faults 0 40 72 before before
none_listed faults before = record { done = []; rest = refl; many = refl; base = refl; written = sym (append-nil before) }

module _ {A : Type 0} (faults : Faults A) (i room y : ℕ) (before now : List ℕ) (listed : AreListed faults i room y before now) (fault : Fault) (inside : i < length faults.faults.items)
    (at : fault ≡ get_or faults.faults.items i fault) where
  said_at : FaultSaid
  said_at = record { number = fault.number; lines = lines_of_fault faults (Some fault) }

  rest_is : drop i (faults_read faults) ≡ said_at ∷ drop (i + 1) (faults_read faults)
  unfolding said_at
  rest_is =
      let read : Fault → FaultSaid = λ f. record { number = f.number; lines = lines_of_fault faults (Some f) } in
      let items = faults.faults.items in
      let long = length-map items read in
      drop_more (faults_read faults) i said_at (omega (arith, inside, long))
      ∙ ap (λ f. f ∷ drop (i + 1) (faults_read faults)) (get_or-map read items i fault said_at inside ∙ ap read (sym at))

  count_is : fault.end ≤ length faults.lines.items → length said_at.lines ≡ fault.end - fault.begin
  unfolding said_at
  count_is within = many_lines faults fault within

  pub fault_listed : (new : List ℕ) → fault.end ≤ length faults.lines.items → fault.end - fault.begin ≤ room
      → new ≡ now ++ list_text y (lines_of_reason (lines_of_fault faults (Some fault)))
      → AreListed faults (i + 1) (room - (fault.end - fault.begin)) (y + 14 * (fault.end - fault.begin)) before new
  unfolding said_at
  fault_listed new within fits adds =
      let lines = lines_of_reason (lines_of_fault faults (Some fault)) in
      let count : length lines ≡ fault.end - fault.begin = as_many_lines (lines_of_fault faults (Some fault)) ∙ count_is within in
      let long : length (listed.done ++ lines) ≡ length listed.done + length lines = length-append listed.done lines in
      let many = listed.many in
      let base = listed.base in
      let next = drop (i + 1) (faults_read faults) in
      let enough : nat_lt room (length (lines_of_fault faults (Some fault))) ≡ false = le-ltb room _ (let is = count_is within in omega (arith, is, fits)) in
      let more : lines_within room (drop i (faults_read faults)) ≡ lines ++ lines_within (room - (fault.end - fault.begin)) next =
      ap (lines_within room) rest_is
      ∙ ap (λ b. if b then left_out_line (length (said_at ∷ next)) ∷ [] else (lines ++ lines_within (room - length said_at.lines) next)) enough
      ∙ ap (λ n. lines ++ lines_within (room - n) next) (count_is within) in
      record {
        done = listed.done ++ lines;
        rest = listed.rest ∙ ap (λ l. listed.done ++ l) more ∙ sym (append_assoc listed.done lines (lines_within (room - (fault.end - fault.begin)) next));
        many = omega (arith, many, long, count, fits);
        base = omega (arith, base, long, count);
        written =
            adds ∙ ap (λ l. l ++ list_text y lines) listed.written ∙ append_assoc before (list_text 72 listed.done) (list_text y lines)
            ∙ ap (λ l. before ++ l) (ap (λ n. list_text 72 listed.done ++ list_text n lines) base ∙ sym (list_text-append 72 listed.done lines));
      }

  pub left_out_below : (base : ℕ) → fault.end ≤ length faults.lines.items → room < fault.end - fault.begin → base ≡ y + 14
      → (base ≡ 72 + 14 * length (lines_within 40 (faults_read faults))) × (base ≤ 646)
  unfolding said_at
  left_out_below base within short base_is =
      let next = drop (i + 1) (faults_read faults) in
      let line = left_out_line (length (said_at ∷ next)) in
      let none : nat_lt room (length (lines_of_fault faults (Some fault))) ≡ true = lt-ltb room _ (let is = count_is within in omega (arith, is, short)) in
      let more : lines_within room (drop i (faults_read faults)) ≡ line ∷ [] =
      ap (lines_within room) rest_is
      ∙ ap (λ b. if b then line ∷ [] else (lines_of_reason said_at.lines ++ lines_within (room - length said_at.lines) next)) none in
      let long : length (lines_within 40 (faults_read faults)) ≡ length listed.done + 1 =
      ap length (listed.rest ∙ ap (λ l. listed.done ++ l) more) ∙ length-append listed.done (line ∷ []) in
      let above = listed.base in
      let many = listed.many in
      (omega (arith, base_is, above, long), omega (arith, base_is, above, many))

  pub rest_left_out : (new : List ℕ) (left base : ℕ) → fault.end ≤ length faults.lines.items → room < fault.end - fault.begin → left ≡ length faults.faults.items - i → base ≡ y + 14
      → new ≡ now ++ label_text (left_out_line left).left base (left_out_line left).class (left_out_line left).words
      → new ≡ before ++ fault_list_text (faults_read faults)
  unfolding said_at
  rest_left_out new left base within short left_is base_is adds =
      let read : Fault → FaultSaid = λ f. record { number = f.number; lines = lines_of_fault faults (Some f) } in
      let next = drop (i + 1) (faults_read faults) in
      let line = left_out_line left in
      let whole : length (said_at ∷ next) ≡ left =
      ap length (sym rest_is) ∙ length-drop i (faults_read faults) ∙ ap (λ n. n - i) (length-map faults.faults.items read) ∙ sym left_is in
      let none : nat_lt room (length (lines_of_fault faults (Some fault))) ≡ true = lt-ltb room _ (let is = count_is within in omega (arith, is, short)) in
      let more : lines_within room (drop i (faults_read faults)) ≡ line ∷ [] =
      ap (lines_within room) rest_is
      ∙ ap (λ b. if b then left_out_line (length (said_at ∷ next)) ∷ [] else (lines_of_reason said_at.lines ++ lines_within (room - length said_at.lines) next)) none
      ∙ ap (λ n. left_out_line n ∷ []) whole in
      let y_is = listed.base in
      adds ∙ ap (λ l. l ++ label_text line.left base line.class line.words) listed.written
      ∙ append_assoc before (list_text 72 listed.done) (label_text line.left base line.class line.words)
      ∙ ap (λ l. before ++ l)
      (ap (λ n. list_text 72 listed.done ++ label_text line.left n line.class line.words) (base_is ∙ ap (λ n. n + 14) y_is)
      ∙ sym (one_more_line 72 listed.done line) ∙ ap (list_text 72) (ap (λ l. listed.done ++ l) (sym more) ∙ sym listed.rest))

pub all_listed : {A : Type 0} (faults : Faults A) (i room y : ℕ) (before now : List ℕ) → AreListed faults i room y before now → length faults.faults.items ≤ i
    → now ≡ before ++ fault_list_text (faults_read faults)
all_listed faults i room y before now listed end =
    let read : Fault → FaultSaid = λ f. record { number = f.number; lines = lines_of_fault faults (Some f) } in
    let long = length-map faults.faults.items read in
    listed.written
    ∙ ap (λ l. before ++ list_text 72 l)
    (sym (append-nil listed.done) ∙ ap (λ l. listed.done ++ lines_within room l) (sym (drop_all i (faults_read faults) (omega (arith, end, long)))) ∙ sym listed.rest)

pub all_below : {A : Type 0} (faults : Faults A) (i room y : ℕ) (before now : List ℕ) → AreListed faults i room y before now → length faults.faults.items ≤ i
    → (y ≡ 72 + 14 * length (lines_within 40 (faults_read faults))) × (y ≤ 646)
all_below faults i room y before now listed end =
    let read : Fault → FaultSaid = λ f. record { number = f.number; lines = lines_of_fault faults (Some f) } in
    let items = length-map faults.faults.items read in
    let long : length (lines_within 40 (faults_read faults)) ≡ length listed.done =
    ap length (listed.rest ∙ ap (λ l. listed.done ++ lines_within room l) (drop_all i (faults_read faults) (omega (arith, end, items))) ∙ append-nil listed.done) in
    let above = listed.base in
    let many = listed.many in
    (omega (arith, above, long), omega (arith, above, many))

-- the fault at an index of the same list
pub fault_there : {A : Type 0} (faults : Faults A) (items : List Fault) (i : ℕ) (d : Fault) → items ≡ faults.faults.items → i < length items
    → (i < length faults.faults.items) × (get_or items i d ≡ get_or faults.faults.items i (get_or items i d)) × ((get_or items i d).end ≤ length faults.lines.items)
fault_there faults items i d same inside =
    let long : length items ≡ length faults.faults.items = ap length same in
    let lt : i < length faults.faults.items = omega (arith, inside, long) in
    let at = get_or_default items i d (get_or items i d) inside ∙ ap (λ l. get_or l i (get_or items i d)) same in
    (lt, at, subst (λ (f : Fault). f.end ≤ length faults.lines.items) (sym at) (faults.within i (get_or items i d) lt).1)
