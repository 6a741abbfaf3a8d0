-- The faults of a text with their lines, as they are read.
use Rattle.std.proofs.Common.{Result, Ok, Err, OnOk, Less, Equal, Greater, ◌≡◌, ◌≤◌, ◌<◌, ◌+◌, ◌-◌, ◌==◌, ◌&&◌, not, ℕ, zero, suc, Bool, true, false, ltb, cond, Option, Some, None, List, [], ◌∷◌, ◌++◌, map, length, take, drop, set, get_or, refl, sym, ap, subst, ◌∙◌, arith}
use Rattle.std.specs.Prelude.{codes, fold, nat_eq, slice_index_or, if◌then◌else◌}
use Rattle.std.specs.List.{All, filter, flat_map, slice_get, slice_split, starts_with}
use Rattle.std.specs.List.Sorted.{IsStableByKey, ties}
use Rattle.std.specs.Ordering.{is_lt, nat_cmp}
use Rattle.std.proofs.Math.Seq.{drop-append_seam, take-append_seam}
use Rattle.std.proofs.lemmas.Bool.Decides.{nat_tests}
use Rattle.std.proofs.lemmas.Grind.{flat_map-append}
use Rattle.std.proofs.lemmas.List.{append-nil, append_assoc, drop-map, ext_get_or, get_or-map, length-append, length-map, map-append, map-set, take-map}
use Rattle.std.proofs.lemmas.List.Elements.{All-append, All-cons, All-head, All-nil, All-tail, filter-append, filter_agree}
use Rattle.std.proofs.lemmas.List.Sums.{fold-append}
use Rattle.std.proofs.lemmas.Option.{slice_get-get_or}
use Rattle.pci_picture.specs.Lines.{is_feed, unindented_line, words_in_line}
use Rattle.pci_picture.specs.Marks.{AddsFault, keys_begun, keys_of_fault, namings_of, number_before_blank}
use Rattle.pci_picture.specs.FaultLines.{faults_read}
use Rattle.pci_picture.specs.Said.{AreLinesOf, FaultPlace, FaultSaid, faults_said, lines_of_fault, place_of_fault, places_from, said_by, said_lines, said_of_fault, said_of_key, say_line, with_fault_line, with_reason}
use Rattle.pci_picture.specs.declared.faults.Fault.{Fault}
use Rattle.pci_picture.specs.declared.faults.Faults.{Faults}
use Rattle.pci_picture.specs.declared.faults.Keys.TheVariants.{None as NoKey}
use Rattle.pci_picture.specs.declared.faults.Naming.{Naming}
use Rattle.pci_picture.specs.declared.faults.Reader.{Reader}

abbrev HasLine : FaultSaid → Type 0
HasLine fault = 0 < length fault.lines

abbrev lines_in : List FaultSaid → List (List ℕ)
lines_in said = flat_map (λ fault. fault.lines) said

abbrev one_line : ℕ → List ℕ → FaultSaid
one_line number line = record { number = number; lines = line ∷ [] }

abbrev the_place : ℕ → ℕ → ℕ → FaultPlace
the_place number begin end = record { number = number; begin = begin; end = end }

pub on_ok : {T E P : Type 0} (result : Result T E) → P → OnOk result P
on_ok (Ok x) p = p
on_ok (Err e) p = tt

-- ---- where faults stand

places_long : (begin : ℕ) (said : List FaultSaid) → length (places_from begin said) ≡ length said
places_long begin [] = refl
places_long begin (fault ∷ said) = ap suc (places_long (begin + length fault.lines) said)

said_long : (faults : List Fault) (said : List FaultSaid) → map place_of_fault faults ≡ places_from 0 said → length said ≡ length faults
said_long faults said is = sym (places_long 0 said) ∙ ap length (sym is) ∙ length-map faults place_of_fault

same_place : (number begin end number' begin' end' : ℕ) → number ≡ number' → begin ≡ begin' → end ≡ end'
    → the_place number begin end ≡ the_place number' begin' end'
same_place number begin end number' begin' end' n b e =
    ap (λ x. the_place x begin end) n ∙ ap (λ x. the_place number' x end) b ∙ ap (the_place number' begin') e

-- ---- a fault more

place_more : (begin number at : ℕ) (line : List ℕ) (said : List FaultSaid) → at ≡ begin + length (lines_in said)
    → places_from begin (said ++ one_line number line ∷ []) ≡ places_from begin said ++ the_place number at (at + 1) ∷ []
place_more begin number at line [] is =
    let same : begin ≡ at = omega (arith, is) in
    ap (λ n. the_place number n (n + 1) ∷ []) same
place_more begin number at line (fault ∷ said) is =
    ap (λ l. the_place fault.number begin (begin + length fault.lines) ∷ l)
    (place_more (begin + length fault.lines) number at line said (let long = length-append fault.lines (lines_in said) in omega (arith, is, long)))

pub fault_begun : {A : Type 0} (number : ℕ) (line : List ℕ) (old new : Reader A) (fault : Fault) (said : List FaultSaid)
    → map (λ l. l.now) new.lines.items ≡ map (λ l. l.now) old.lines.items ++ line ∷ [] → new.faults.items ≡ old.faults.items ++ fault ∷ []
    → fault.number ≡ number → fault.begin ≡ length old.lines.items → fault.end ≡ length old.lines.items + 1
    → AreLinesOf said old → AreLinesOf (said ++ one_line number line ∷ []) new
fault_begun number line old new fault said lines faults is_number is_begin is_end before =
    let long : length (lines_in said) ≡ length old.lines.items = ap length (sym before.lines) ∙ length-map old.lines.items (λ l. l.now) in
    let at = length old.lines.items in
    record {
      each = All-append HasLine said (one_line number line ∷ []) before.each (All-cons HasLine (one_line number line) [] (omega arith) (All-nil HasLine));
      lines = lines ∙ ap (λ l. l ++ line ∷ []) before.lines ∙ sym (flat_map-append (λ f. f.lines) said (one_line number line ∷ []));
      places =
          ap (map place_of_fault) faults ∙ map-append place_of_fault old.faults.items (fault ∷ [])
          ∙ ap (λ l. l ++ place_of_fault fault ∷ []) before.places
          ∙ ap (λ p. places_from 0 said ++ p ∷ []) (same_place fault.number fault.begin fault.end number at (at + 1) is_number is_begin is_end)
          ∙ sym (place_more 0 number at line said (omega (arith, long)));
    }

-- ---- a further line

reason_each : (said : List FaultSaid) (line : List ℕ) → All HasLine said → All HasLine (with_reason said line)
reason_each [] line each = each
reason_each (fault ∷ []) line each =
    All-cons HasLine (record { number = fault.number; lines = fault.lines ++ line ∷ [] }) [] (let long = length-append fault.lines (line ∷ []) in omega (arith, long)) (All-nil HasLine)
reason_each (fault ∷ next ∷ said) line each =
    All-cons HasLine fault (with_reason (next ∷ said) line) (All-head HasLine fault (next ∷ said) each)
    (reason_each (next ∷ said) line (All-tail HasLine fault (next ∷ said) each))

reason_lines : (said : List FaultSaid) (line : List ℕ) → 0 < length said → lines_in (with_reason said line) ≡ lines_in said ++ line ∷ []
reason_lines [] line some = absurd (omega (arith, some))
reason_lines (fault ∷ []) line some = append-nil (fault.lines ++ line ∷ []) ∙ ap (λ l. l ++ line ∷ []) (sym (append-nil fault.lines))
reason_lines (fault ∷ next ∷ said) line some =
    ap (λ l. fault.lines ++ l) (reason_lines (next ∷ said) line (omega arith)) ∙ sym (append_assoc fault.lines (lines_in (next ∷ said)) (line ∷ []))

reason_places : (line : List ℕ) (begin : ℕ) (said : List FaultSaid) (n at : ℕ) (d : FaultPlace) → n + 1 ≡ length said → at ≡ begin + length (lines_in said) + 1
    → set (places_from begin said) n (the_place (get_or (places_from begin said) n d).number (get_or (places_from begin said) n d).begin at)
    ≡ places_from begin (with_reason said line)
reason_places line begin [] n at d last is = absurd (omega (arith, last))
reason_places line begin (fault ∷ []) zero at d last is =
    let one = length-append fault.lines [] in
    let more = length-append fault.lines (line ∷ []) in
    let end : at ≡ begin + length (fault.lines ++ line ∷ []) = omega (arith, is, one, more) in
    ap (λ e. the_place fault.number begin e ∷ []) end
reason_places line begin (fault ∷ []) (suc n) at d last is = absurd (omega (arith, last))
reason_places line begin (fault ∷ next ∷ said) zero at d last is = absurd (omega (arith, last))
reason_places line begin (fault ∷ next ∷ said) (suc n) at d last is =
    let long = length-append fault.lines (lines_in (next ∷ said)) in
    ap (λ l. the_place fault.number begin (begin + length fault.lines) ∷ l)
    (reason_places line (begin + length fault.lines) (next ∷ said) n at d (omega (arith, last)) (omega (arith, is, long)))

abbrev ends_at : ℕ → Fault → Fault
ends_at end fault = record { number = fault.number; keys = fault.keys; begin = fault.begin; end = end }

pub fault_reasoned : {A : Type 0} (line : List ℕ) (old new : Reader A) (fault : Fault) (last end : ℕ) (said : List FaultSaid)
    → map (λ l. l.now) new.lines.items ≡ map (λ l. l.now) old.lines.items ++ line ∷ [] → new.faults.items ≡ set old.faults.items last (ends_at end fault)
    → last + 1 ≡ length old.faults.items → fault ≡ get_or old.faults.items last fault → end ≡ length old.lines.items + 1
    → AreLinesOf said old → AreLinesOf (with_reason said line) new
fault_reasoned line old new fault last end said lines faults is_last is is_end before =
    let long : length (lines_in said) ≡ length old.lines.items = ap length (sym before.lines) ∙ length-map old.lines.items (λ l. l.now) in
    let many : length said ≡ length old.faults.items = said_long old.faults.items said before.places in
    let at : place_of_fault fault ≡ get_or (places_from 0 said) last (place_of_fault fault) =
    ap place_of_fault is ∙ sym (get_or-map place_of_fault old.faults.items last fault (place_of_fault fault) (omega (arith, is_last)))
    ∙ ap (λ l. get_or l last (place_of_fault fault)) before.places in
    record {
      each = reason_each said line before.each;
      lines = lines ∙ ap (λ l. l ++ line ∷ []) before.lines ∙ sym (reason_lines said line (omega (arith, is_last, many)));
      places =
          ap (map place_of_fault) faults ∙ map-set place_of_fault old.faults.items last (ends_at end fault)
          ∙ ap (λ l. set l last (the_place fault.number fault.begin end)) before.places
          ∙ ap (λ p. set (places_from 0 said) last (the_place p.number p.begin end)) at
          ∙ reason_places line 0 said last end (place_of_fault fault) (omega (arith, is_last, many)) (omega (arith, is_end, long));
    }

pub none_there : (n : ℕ) → (0 < n → false ≡ true) → n ≡ 0
none_there zero some = refl
none_there (suc n) some = absurd (let is : false ≡ true = some (omega arith) in let bad : ⊥ = cc in bad)

pub none_reasoned : {A : Type 0} (line : List ℕ) (old new : Reader A) (said : List FaultSaid) → new.lines.items ≡ old.lines.items → new.faults.items ≡ old.faults.items
    → length old.faults.items ≡ 0 → AreLinesOf said old → AreLinesOf (with_reason said line) new
none_reasoned line old new [] lines faults none before = record {
  each = before.each;
  lines = ap (map (λ l. l.now)) lines ∙ before.lines;
  places = ap (map place_of_fault) faults ∙ before.places;
}
none_reasoned line old new (fault ∷ said) lines faults none before =
    absurd (let long = said_long old.faults.items (fault ∷ said) before.places in omega (arith, none, long))

-- ---- what faults name

abbrev keys_said : FaultSaid → List ℕ
keys_said fault = keys_of_fault fault.number (words_in_line (slice_index_or fault.lines 0 []))

abbrev pub namings_from : ℕ → List FaultSaid → List Naming
namings_from i [] = []
namings_from i (fault ∷ said) = namings_of i (keys_said fault) ++ namings_from (suc i) said

namings_more : (i number at : ℕ) (line : List ℕ) (said : List FaultSaid) → at ≡ i + length said
    → namings_from i (said ++ one_line number line ∷ []) ≡ namings_from i said ++ namings_of at (keys_of_fault number (words_in_line line))
namings_more i number at line [] is =
    let same : i ≡ at = omega (arith, is) in
    append-nil (namings_of i (keys_of_fault number (words_in_line line))) ∙ ap (λ n. namings_of n (keys_of_fault number (words_in_line line))) same
namings_more i number at line (fault ∷ said) is =
    ap (λ l. namings_of i (keys_said fault) ++ l) (namings_more (suc i) number at line said (omega (arith, is)))
    ∙ sym (append_assoc (namings_of i (keys_said fault)) (namings_from (suc i) said) (namings_of at (keys_of_fault number (words_in_line line))))

first_kept : (lines : List (List ℕ)) (line : List ℕ) → 0 < length lines → get_or (lines ++ line ∷ []) 0 [] ≡ get_or lines 0 []
first_kept [] line some = absurd (omega (arith, some))
first_kept (first ∷ lines) line some = refl

namings_kept : (i : ℕ) (said : List FaultSaid) (line : List ℕ) → All HasLine said → namings_from i (with_reason said line) ≡ namings_from i said
namings_kept i [] line each = refl
namings_kept i (fault ∷ []) line each =
    ap (λ l. namings_of i (keys_of_fault fault.number (words_in_line l)) ++ []) (first_kept fault.lines line (All-head HasLine fault [] each))
namings_kept i (fault ∷ next ∷ said) line each =
    ap (λ l. namings_of i (keys_said fault) ++ l) (namings_kept (suc i) (next ∷ said) line (All-tail HasLine fault (next ∷ said) each))

namings_of_line : (said : List FaultSaid) (line : List ℕ) (number : Option ℕ) → All HasLine said
    → namings_from 0 (with_fault_line said line number) ≡ namings_from 0 said ++ namings_of (length said) (keys_begun number line)
namings_of_line said line (Some number) each = namings_more 0 number (length said) line said (omega arith)
namings_of_line said line None each = go (starts_with nat_eq line (codes "  ")) ∙ sym (append-nil (namings_from 0 said))
  where
    go : (further : Bool) → namings_from 0 (if further then with_reason said (unindented_line line) else said) ≡ namings_from 0 said
    go true = namings_kept 0 said (unindented_line line) each
    go false = refl

-- ---- the lines of a text, one by one

pub record AreReadLines {A : Type 0} (lines : List (List ℕ)) (reader : Reader A) : Type 0 where
  pub said : AreLinesOf (fold say_line [] lines) reader
  pub named : reader.namings.items ≡ namings_from 0 (fold say_line [] lines)

pub no_lines : {A : Type 0} (reader : Reader A) → reader.lines.items ≡ [] → reader.faults.items ≡ [] → reader.namings.items ≡ [] → AreReadLines [] reader
no_lines reader lines faults namings = record {
  said = record { each = All-nil HasLine; lines = ap (map (λ l. l.now)) lines; places = ap (map place_of_fault) faults };
  named = namings;
}

pub lines_more : {A X : Type 0} (now : X → List ℕ) (lines : List X) (line : X) (bytes : List ℕ) (old new : Reader A) → bytes ≡ now line → AreReadLines (map now lines) old
    → AddsFault (number_before_blank bytes) bytes old new
    → ((said : List FaultSaid) → AreLinesOf said old → AreLinesOf (with_fault_line said bytes (number_before_blank bytes)) new)
    → AreReadLines (map now (lines ++ line ∷ [])) new
lines_more now lines line bytes old new same before adds says =
    let said = fold say_line [] (map now lines) in
    let whole : say_line said bytes ≡ fold say_line [] (map now (lines ++ line ∷ [])) =
    ap (say_line said) same ∙ sym (fold-append say_line [] (map now lines) (now line ∷ [])) ∙ ap (fold say_line []) (sym (map-append now lines (line ∷ []))) in
    record {
      said = subst (λ s. AreLinesOf s new) whole (says said before.said);
      named =
          adds.namings ∙ ap (λ l. l ++ namings_of (length old.faults.items) (keys_begun (number_before_blank bytes) bytes)) before.named
          ∙ ap (λ n. namings_from 0 said ++ namings_of n (keys_begun (number_before_blank bytes) bytes)) (sym (said_long old.faults.items said before.said.places))
          ∙ sym (namings_of_line said bytes (number_before_blank bytes) before.said.each)
          ∙ ap (namings_from 0) whole;
    }

-- ---- each fault has its lines

place_within : (k begin : ℕ) (said : List FaultSaid) (d : FaultPlace) → k < length said → All HasLine said
    → ((get_or (places_from begin said) k d).begin < (get_or (places_from begin said) k d).end)
    × ((get_or (places_from begin said) k d).end ≤ begin + length (lines_in said))
place_within k begin [] d inside each = absurd (omega (arith, inside))
place_within zero begin (fault ∷ said) d inside each =
    let long = length-append fault.lines (lines_in said) in
    let some = All-head HasLine fault said each in
    (omega (arith, some), omega (arith, long))
place_within (suc k) begin (fault ∷ said) d inside each =
    let long = length-append fault.lines (lines_in said) in
    let rest = place_within k (begin + length fault.lines) said d (omega (arith, inside)) (All-tail HasLine fault said each) in
    (rest.0, (let a = rest.1 in omega (arith, a, long)))

place_at : (faults : List Fault) (said : List FaultSaid) (k : ℕ) (d : Fault) → map place_of_fault faults ≡ places_from 0 said → k < length faults
    → place_of_fault (get_or faults k d) ≡ get_or (places_from 0 said) k (place_of_fault d)
place_at faults said k d is inside = sym (get_or-map place_of_fault faults k d (place_of_fault d) inside) ∙ ap (λ l. get_or l k (place_of_fault d)) is

pub faults_within : {A : Type 0} (lines : List (List ℕ)) (reader : Reader A) → AreReadLines lines reader → (k : ℕ) (d : Fault) → k < length reader.faults.items
    → ((get_or reader.faults.items k d).begin < (get_or reader.faults.items k d).end) × ((get_or reader.faults.items k d).end ≤ length reader.lines.items)
faults_within lines reader read k d inside =
    let said = fold say_line [] lines in
    let faults = reader.faults.items in
    let long : length (lines_in said) ≡ length reader.lines.items = ap length (sym read.said.lines) ∙ length-map reader.lines.items (λ l. l.now) in
    let many : length said ≡ length faults = said_long faults said read.said.places in
    let at = place_at faults said k d read.said.places inside in
    let within = place_within k 0 said (place_of_fault d) (omega (arith, inside, many)) read.said.each in
    let begin : (get_or faults k d).begin ≡ (get_or (places_from 0 said) k (place_of_fault d)).begin = ap (λ p. p.begin) at in
    let end : (get_or faults k d).end ≡ (get_or (places_from 0 said) k (place_of_fault d)).end = ap (λ p. p.end) at in
    ((let a = within.0 in omega (arith, a, begin, end)), (let a = within.1 in omega (arith, a, end, long)))

lines_at : (k begin : ℕ) (said : List FaultSaid) (before : List (List ℕ)) (e : FaultPlace) (d : FaultSaid) → length before ≡ begin → k < length said
    → take ((get_or (places_from begin said) k e).end - (get_or (places_from begin said) k e).begin) (drop (get_or (places_from begin said) k e).begin (before ++ lines_in said))
    ≡ (get_or said k d).lines
lines_at k begin [] before e d long inside = absurd (omega (arith, inside))
lines_at zero begin (fault ∷ said) before e d long inside =
    let count : begin + length fault.lines - begin ≡ length fault.lines = omega arith in
    ap (λ n. take n (drop begin (before ++ lines_in (fault ∷ said)))) count
    ∙ ap (λ n. take (length fault.lines) (drop n (before ++ lines_in (fault ∷ said)))) (sym long)
    ∙ ap (take (length fault.lines)) (drop-append_seam before (lines_in (fault ∷ said)))
    ∙ take-append_seam fault.lines (lines_in said)
lines_at (suc k) begin (fault ∷ said) before e d long inside =
    let place = get_or (places_from (begin + length fault.lines) said) k e in
    let more : length (before ++ fault.lines) ≡ begin + length fault.lines = length-append before fault.lines ∙ ap (λ n. n + length fault.lines) long in
    ap (λ l. take (place.end - place.begin) (drop place.begin l)) (sym (append_assoc before fault.lines (lines_in said)))
    ∙ lines_at k (begin + length fault.lines) said (before ++ fault.lines) e d more (omega (arith, inside))

lines_found : {A : Type 0} (faults : Faults A) (said : List FaultSaid) (k : ℕ) (d : FaultSaid) → map (λ l. l.now) faults.lines.items ≡ lines_in said
    → map place_of_fault faults.faults.items ≡ places_from 0 said → k < length said
    → lines_of_fault faults (slice_get faults.faults.items k) ≡ (get_or said k d).lines
lines_found faults said k d lines places inside =
    let none : Fault = record { number = 0; keys = NoKey; begin = 0; end = 0 } in
    let items = faults.faults.items in
    let fault = get_or items k none in
    let many : length said ≡ length items = said_long items said places in
    let lt : k < length items = omega (arith, inside, many) in
    let all = lines_in said in
    ap (lines_of_fault faults) (slice_get-get_or items k none lt)
    ∙ sym (take-map (λ l. l.now) (fault.end - fault.begin) (drop fault.begin faults.lines.items))
    ∙ ap (take (fault.end - fault.begin)) (sym (drop-map (λ l. l.now) fault.begin faults.lines.items) ∙ ap (drop fault.begin) lines)
    ∙ ap (λ p. take (p.end - p.begin) (drop p.begin all)) (place_at items said k none places lt)
    ∙ lines_at k 0 said [] (place_of_fault none) d refl inside

-- ---- what is said of a key

said_of_keys : (g : Naming → List ℕ) (key i : ℕ) (lines : List (List ℕ)) (keys : List ℕ) → ((k : ℕ) → g (record { key = k; fault = i }) ≡ said_lines lines)
    → flat_map g (filter (λ n. n.key == key) (namings_of i keys)) ≡ flat_map (λ k. if k == key then said_lines lines else []) keys
said_of_keys g key i lines [] is = refl
said_of_keys g key i lines (k ∷ keys) is = go (k == key) (said_of_keys g key i lines keys is)
  where
    go : (test : Bool) → flat_map g (filter (λ n. n.key == key) (namings_of i keys)) ≡ flat_map (λ k. if k == key then said_lines lines else []) keys
        → flat_map g (cond test (record { key = k; fault = i } ∷ filter (λ n. n.key == key) (namings_of i keys)) (filter (λ n. n.key == key) (namings_of i keys)))
        ≡ (if test then said_lines lines else []) ++ flat_map (λ k. if k == key then said_lines lines else []) keys
    go true rest = ap (λ l. l ++ flat_map g (filter (λ n. n.key == key) (namings_of i keys))) (is k) ∙ ap (λ l. said_lines lines ++ l) rest
    go false rest = rest

said_from : (g : Naming → List ℕ) (key i : ℕ) (said : List FaultSaid)
    → ((j at k : ℕ) (d : FaultSaid) → j < length said → at ≡ i + j → g (record { key = k; fault = at }) ≡ said_lines (get_or said j d).lines)
    → flat_map g (filter (λ n. n.key == key) (namings_from i said)) ≡ flat_map (said_of_fault key) said
said_from g key i [] is = refl
said_from g key i (fault ∷ said) is =
    let first = namings_of i (keys_said fault) in
    let rest = namings_from (suc i) said in
    ap (flat_map g) (filter-append (λ n. n.key == key) first rest)
    ∙ flat_map-append g (filter (λ n. n.key == key) first) (filter (λ n. n.key == key) rest)
    ∙ ap (λ l. l ++ flat_map g (filter (λ n. n.key == key) rest)) (said_of_keys g key i fault.lines (keys_said fault) (λ k. is 0 i k fault (omega arith) (omega arith)))
    ∙ ap (λ l. said_of_fault key fault ++ l)
    (said_from g key (suc i) said (λ j at k d inside same. is (suc j) at k d (omega (arith, inside)) (omega (arith, same))))

-- the sort is stable
lt_of_cmp : (a b : ℕ) → is_lt (nat_cmp a b) ≡ ltb a b
lt_of_cmp a b = go (ltb a b) (a == b)
  where
    go : (less same : Bool) → is_lt (cond less Less (cond same Equal Greater)) ≡ less
    go true same = refl
    go false true = refl
    go false false = refl

same_ties : (a b : ℕ) → (b == a) ≡ (not (ltb a b) && not (ltb b a))
same_ties a b = grind (arith, nat_tests)

pub namings_sorted : (key : ℕ) (namings sorted : List Naming) → IsStableByKey (λ n. n.key) nat_cmp namings sorted
    → filter (λ n. n.key == key) sorted ≡ filter (λ n. n.key == key) namings
namings_sorted key namings sorted stable =
    let test = λ (n : Naming). n.key == key in
    let tied = ties (λ (x : Naming) (y : Naming). is_lt (nat_cmp x.key y.key)) (record { key = key; fault = 0 }) in
    let same : (n : Naming) → test n ≡ tied n = λ n.
    same_ties key n.key ∙ ap (λ b. not b && not (ltb n.key key)) (sym (lt_of_cmp key n.key)) ∙ ap (λ b. not (is_lt (nat_cmp key n.key)) && not b) (sym (lt_of_cmp n.key key)) in
    filter_agree test tied same sorted ∙ stable (record { key = key; fault = 0 }) ∙ sym (filter_agree test tied same namings)

pub text_said : {A X : Type 0} (now : X → List ℕ) (lines : List X) (text : List ℕ) (reader : Reader A) (faults : Faults A) → map now lines ≡ slice_split is_feed text
    → AreReadLines (map now lines) reader → faults.lines.items ≡ reader.lines.items → faults.faults.items ≡ reader.faults.items
    → IsStableByKey (λ n. n.key) nat_cmp reader.namings.items faults.namings.items → (key : ℕ) → said_by faults key ≡ said_of_key text key
text_said now lines text reader faults whole read same_lines same_faults stable key =
    let said = fold say_line [] (map now lines) in
    let g = λ (n : Naming). said_lines (lines_of_fault faults (slice_get faults.faults.items n.fault)) in
    ap (flat_map g) (namings_sorted key reader.namings.items faults.namings.items stable ∙ ap (filter (λ n. n.key == key)) read.named)
    ∙ said_from g key 0 said (λ j at k d inside same.
    let is : at ≡ j = omega (arith, same) in
    ap (λ i. said_lines (lines_of_fault faults (slice_get faults.faults.items i))) is
    ∙ ap said_lines
    (lines_found faults said j d (ap (map (λ l. l.now)) same_lines ∙ read.said.lines) (ap (map place_of_fault) same_faults ∙ read.said.places) inside))
    ∙ ap (λ l. flat_map (said_of_fault key) (fold say_line [] l)) whole

-- ---- all faults that were read

number_at : (begin : ℕ) (said : List FaultSaid) (k : ℕ) (e : FaultPlace) (d : FaultSaid) → k < length said → (get_or (places_from begin said) k e).number ≡ (get_or said k d).number
number_at begin [] k e d inside = absurd (omega (arith, inside))
number_at begin (fault ∷ said) zero e d inside = refl
number_at begin (fault ∷ said) (suc k) e d inside = number_at (begin + length fault.lines) said k e d (omega (arith, inside))

the_said : ℕ → List (List ℕ) → FaultSaid
the_said number lines = record { number = number; lines = lines }

said_read : {A : Type 0} (faults : Faults A) (said : List FaultSaid) → map (λ l. l.now) faults.lines.items ≡ lines_in said
    → map place_of_fault faults.faults.items ≡ places_from 0 said → faults_read faults ≡ said
unfolding the_said
said_read faults said lines places =
    let none : Fault = record { number = 0; keys = NoKey; begin = 0; end = 0 } in
    let items = faults.faults.items in
    let read : Fault → FaultSaid = λ f. record { number = f.number; lines = lines_of_fault faults (Some f) } in
    let many : length said ≡ length items = said_long items said places in
    let long : length (map read items) ≡ length items = length-map items read in
    let d : FaultSaid = the_said 0 [] in
    ext_get_or d (faults_read faults) said (omega (arith, many, long)) (λ k inside.
    let lt : k < length items = omega (arith, inside, long) in
    let in_said : k < length said = omega (arith, lt, many) in
    get_or-map read items k none d lt
    ∙ ap (λ n. the_said n (lines_of_fault faults (Some (get_or items k none)))) (ap (λ p. p.number) (place_at items said k none places lt) ∙ number_at 0 said k (place_of_fault none) d in_said)
    ∙ ap (the_said (get_or said k d).number) (ap (lines_of_fault faults) (sym (slice_get-get_or items k none lt)) ∙ lines_found faults said k d lines places in_said))

pub text_read : {A X : Type 0} (now : X → List ℕ) (lines : List X) (text : List ℕ) (reader : Reader A) (faults : Faults A) → map now lines ≡ slice_split is_feed text
    → AreReadLines (map now lines) reader → faults.lines.items ≡ reader.lines.items → faults.faults.items ≡ reader.faults.items → faults_read faults ≡ faults_said text
text_read now lines text reader faults whole read same_lines same_faults =
    said_read faults (fold say_line [] (map now lines)) (ap (map (λ l. l.now)) same_lines ∙ read.said.lines) (ap (map place_of_fault) same_faults ∙ read.said.places)
    ∙ ap (fold say_line []) whole
