-- What a script compares and what it writes, one more after others.
use Rattle.std.proofs.Common.{◌≡◌, ℕ, ◌+◌, ◌<◌, List, [], ◌∷◌, ◌++◌, Bool, true, false, cond, length, map, take, get_or, refl, sym, ap, ◌∙◌, arith}
use Rattle.std.specs.List.{filter, flat_map, list_any}
use Rattle.std.proofs.lemmas.Grind.{flat_map-append}
use Rattle.std.proofs.lemmas.List.Elements.{filter-append}
use Rattle.std.proofs.lemmas.List.{append-nil, append_assoc, length-map, length-take-le, map-append, take_more}
use Rattle.pci_spec.specs.Slot.{Slot, IsSlot, same_slot, slot_number}
use Rattle.pci_spec.specs.Text.{Block}
use Rattle.pci_spec.specs.Machine.{Write}
use Rattle.pci_kept.specs.Flags.{AreFlags}
use Rattle.pci_plan.specs.Steps.{all_shown, shown_writes}
use Rattle.pci_plan.specs.Writes.{write_value}
use Rattle.pci_plan.specs.declared.write.Write.{Write as CodeWrite}
use Rattle.pci_script.specs.Scripts.{compare_line, is_written, put_line, put_lines}
use Rattle.pci_script.specs.declared.form.Form.{Form}

-- one write more has the next number
put_more : (form : Form) (number : ℕ) (writes : List Write) (w : Write) → put_lines form number (writes ++ w ∷ []) ≡ put_lines form number writes ++ put_line form (number + length writes) w
put_more form number [] w =
    let same : number ≡ number + 0 = omega arith in
    append-nil (put_line form number w) ∙ ap (λ n. put_line form n w) same
put_more form number (v ∷ writes) w =
    let same : number + 1 + length writes ≡ number + length (v ∷ writes) = omega arith in
    ap (λ text. put_line form number v ++ text) (put_more form (number + 1) writes w ∙ ap (λ n. put_lines form (number + 1) writes ++ put_line form n w) same)
    ∙ sym (append_assoc (put_line form number v) (put_lines form (number + 1) writes) (put_line form (number + length (v ∷ writes)) w))

-- one value more
values_more : (writes : List CodeWrite) (i : ℕ) (x : CodeWrite) → i < length writes → x ≡ get_or writes i x → map write_value (take (i + 1) writes) ≡ map write_value (take i writes) ++ write_value x ∷ []
values_more writes i x within item =
    ap (map write_value) (take_more writes i x within ∙ ap (λ y. take i writes ++ y ∷ []) (sym item)) ∙ map-append write_value (take i writes) (x ∷ [])

pub puts_more : (form : Form) (start before after : List ℕ) (writes : List CodeWrite) (i : ℕ) (x : CodeWrite) → i < length writes → x ≡ get_or writes i x
    → before ≡ start ++ put_lines form 1 (map write_value (take i writes)) → after ≡ before ++ put_line form (i + 1) (write_value x)
    → after ≡ start ++ put_lines form 1 (map write_value (take (i + 1) writes))
puts_more form start before after writes i x within item so_far more =
    let w = write_value x in
    let done = map write_value (take i writes) in
    let long = length-take-le i writes (omega (arith, within)) in
    let count : 1 + length done ≡ i + 1 = (let l = length-map (take i writes) write_value in omega (arith, l, long)) in
    more ∙ ap (λ text. text ++ put_line form (i + 1) w) so_far ∙ append_assoc start (put_lines form 1 done) (put_line form (i + 1) w)
    ∙ ap (λ text. start ++ text) (ap (λ n. put_lines form 1 done ++ put_line form n w) (sym count) ∙ sym (put_more form 1 done w) ∙ ap (put_lines form 1) (sym (values_more writes i x within item)))

-- one comparison more
pub compares_more : (form : Form) (start before after : List ℕ) (registers : List CodeWrite) (i : ℕ) (x : CodeWrite) → i < length registers → x ≡ get_or registers i x
    → before ≡ start ++ flat_map (compare_line form) (map write_value (take i registers)) → after ≡ before ++ compare_line form (write_value x)
    → after ≡ start ++ flat_map (compare_line form) (map write_value (take (i + 1) registers))
compares_more form start before after registers i x within item so_far more =
    let w = write_value x in
    let done = map write_value (take i registers) in
    let last : flat_map (compare_line form) (w ∷ []) ≡ compare_line form w = append-nil (compare_line form w) in
    more ∙ ap (λ text. text ++ compare_line form w) so_far ∙ append_assoc start (flat_map (compare_line form) done) (compare_line form w)
    ∙ ap (λ text. start ++ text) (ap (λ text. flat_map (compare_line form) done ++ text) (sym last) ∙ sym (flat_map-append (compare_line form) done (w ∷ [])) ∙ ap (flat_map (compare_line form)) (sym (values_more registers i x within item)))

-- what is shown of a function that may be written
shown_if : (written : Bool) (b : Block) → cond written (shown_writes b) [] ≡ all_shown (cond written (b ∷ []) [])
shown_if true b = sym (append-nil (shown_writes b))
shown_if false b = refl

-- one function more is compared where the flag of its slot is set
pub block_more : (writes : List Write) (slots : List Slot) (flags : List Bool) (dump : List Block) (k : ℕ) (b : Block) (before after : List Write) → k < length dump → b ≡ get_or dump k b
    → slots ≡ map (λ w. w.slot) writes → AreFlags slots flags → IsSlot b.slot → before ≡ all_shown (filter (is_written writes) (take k dump))
    → after ≡ before ++ cond (get_or flags (slot_number b.slot) false) (shown_writes b) []
    → after ≡ all_shown (filter (is_written writes) (take (k + 1) dump))
block_more writes slots flags dump k b before after less item same are is so_far more =
    let test = is_written writes in
    let told : get_or flags (slot_number b.slot) false ≡ test b = are.each b.slot is ∙ ap (list_any (same_slot b.slot)) same in
    more ∙ ap (λ ws. ws ++ cond (get_or flags (slot_number b.slot) false) (shown_writes b) []) so_far
    ∙ ap (λ ws. all_shown (filter test (take k dump)) ++ ws) (ap (λ t. cond t (shown_writes b) []) told ∙ shown_if (test b) b)
    ∙ sym (flat_map-append shown_writes (filter test (take k dump)) (filter test (b ∷ [])))
    ∙ sym (ap all_shown (ap (filter test) (take_more dump k b less ∙ ap (λ y. take k dump ++ y ∷ []) (sym item)) ∙ filter-append test (take k dump) (b ∷ [])))
