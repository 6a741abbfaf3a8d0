-- The namings of faults, as they are read.
use Rattle.std.proofs.Common.{◌≡◌, ◌<◌, ◌+◌, ◌||◌, ℕ, zero, suc, List, [], ◌∷◌, ◌++◌, map, length, set, get_or, refl, sym, ap, subst, ◌∙◌, arith}
use Rattle.std.specs.List.{All, list_any}
use Rattle.std.specs.List.Sorted.{IsPermutation}
use Rattle.std.proofs.lemmas.List.{append-nil, append_assoc, length-append, length-map}
use Rattle.std.proofs.lemmas.List.Elements.{All-nil, All-push, All-set, All-weaker}
use Rattle.std.proofs.lemmas.List.Folds.{list_any-append}
use Rattle.std.proofs.lemmas.List.Sorted.{list_any-IsPermutation}
use Rattle.pci_picture.specs.Lines.{words_in_line}
use Rattle.pci_picture.specs.Marks.{AreNamings, HasKeysOfLine, HasNamings, keys_of_fault, keys_told, namings_of, namings_of_faults}
use Rattle.pci_picture.specs.declared.faults.Fault.{Fault}
use Rattle.pci_picture.specs.declared.faults.Naming.{Naming}
use Rattle.pci_picture.specs.declared.faults.Reader.{Reader}

pub no_namings : (lines : List (List ℕ)) (faults : List Fault) (namings : List Naming) → faults ≡ [] → namings ≡ [] → AreNamings lines faults namings
no_namings lines faults namings none empty = record {
  each = subst (All (HasKeysOfLine lines)) (sym none) (All-nil (HasKeysOfLine lines));
  all = λ test. ap (λ l. list_any test (namings_of_faults 0 l)) none ∙ ap (list_any test) (sym empty);
}

-- ---- the lines before stay

line_before : (lines more : List (List ℕ)) (at : ℕ) → at < length lines → get_or (lines ++ more) at [] ≡ get_or lines at []
line_before [] more at inside = absurd (let no : ⊥ = omega (arith, inside) in no)
line_before (line ∷ lines) more zero inside = refl
line_before (line ∷ lines) more (suc at) inside = line_before lines more at (omega (arith, inside))

line_behind : (lines : List (List ℕ)) (line : List ℕ) (at : ℕ) → at ≡ length lines → get_or (lines ++ line ∷ []) at [] ≡ line
line_behind [] line zero is = refl
line_behind [] line (suc at) is = absurd (let no : ⊥ = omega (arith, is) in no)
line_behind (first ∷ lines) line zero is = absurd (let no : ⊥ = omega (arith, is) in no)
line_behind (first ∷ lines) line (suc at) is = line_behind lines line at (omega (arith, is))

keys_kept : (lines more : List (List ℕ)) (fault : Fault) → HasKeysOfLine lines fault → HasKeysOfLine (lines ++ more) fault
keys_kept lines more fault has = record {
  inside = (let long = length-append lines more in let low = has.inside in omega (arith, long, low));
  keys_are = has.keys_are ∙ ap (λ l. keys_of_fault fault.number (words_in_line l)) (sym (line_before lines more fault.begin has.inside));
}

-- ---- a fault more

namings_push : (index at : ℕ) (faults : List Fault) (fault : Fault) → at ≡ index + length faults
    → namings_of_faults index (faults ++ fault ∷ []) ≡ namings_of_faults index faults ++ namings_of at (keys_told fault.keys)
namings_push index at [] fault is =
    let same : index ≡ at = omega (arith, is) in
    append-nil (namings_of index (keys_told fault.keys)) ∙ ap (λ n. namings_of n (keys_told fault.keys)) same
namings_push index at (first ∷ faults) fault is =
    ap (λ l. namings_of index (keys_told first.keys) ++ l) (namings_push (index + 1) at faults fault (omega (arith, is)))
    ∙ sym (append_assoc (namings_of index (keys_told first.keys)) (namings_of_faults (index + 1) faults) (namings_of at (keys_told fault.keys)))

pub named_begun : {A : Type 0} (number : ℕ) (line : List ℕ) (old new : Reader A) (fault : Fault)
    → map (λ l. l.now) new.lines.items ≡ map (λ l. l.now) old.lines.items ++ line ∷ [] → new.faults.items ≡ old.faults.items ++ fault ∷ []
    → new.namings.items ≡ old.namings.items ++ namings_of (length old.faults.items) (keys_told fault.keys)
    → keys_told fault.keys ≡ keys_of_fault number (words_in_line line) → fault.number ≡ number → fault.begin ≡ length old.lines.items
    → HasNamings old → HasNamings new
named_begun number line old new fault lines faults namings keys is_number is_begin before =
    let was : List (List ℕ) = map (λ l. l.now) old.lines.items in
    let long : length was ≡ length old.lines.items = length-map old.lines.items (λ l. l.now) in
    let more = length-append was (line ∷ []) in
    let at : get_or (was ++ line ∷ []) fault.begin [] ≡ line = line_behind was line fault.begin (is_begin ∙ sym long) in
    let own : HasKeysOfLine (was ++ line ∷ []) fault = record {
      inside = omega (arith, more, long, is_begin);
      keys_are =
          keys ∙ ap (λ n. keys_of_fault n (words_in_line line)) (sym is_number) ∙ ap (λ l. keys_of_fault fault.number (words_in_line l)) (sym at);
    } in
    let added = namings_of (length old.faults.items) (keys_told fault.keys) in
    record {
      each =
          subst (λ l. All (HasKeysOfLine l) new.faults.items) (sym lines)
          (subst (All (HasKeysOfLine (was ++ line ∷ []))) (sym faults)
          (All-push (HasKeysOfLine (was ++ line ∷ [])) old.faults.items fault
          (All-weaker (HasKeysOfLine was) (HasKeysOfLine (was ++ line ∷ [])) (keys_kept was (line ∷ [])) old.faults.items before.each) own));
      all = λ test.
          ap (λ l. list_any test (namings_of_faults 0 l)) faults
          ∙ ap (list_any test) (namings_push 0 (length old.faults.items) old.faults.items fault (omega arith))
          ∙ list_any-append test (namings_of_faults 0 old.faults.items) added ∙ ap (λ b. b || list_any test added) (before.all test)
          ∙ sym (list_any-append test old.namings.items added) ∙ ap (list_any test) (sym namings);
    }

-- ---- a further line

same_namings : (index last : ℕ) (faults : List Fault) (fault : Fault) → fault.keys ≡ (get_or faults last fault).keys
    → namings_of_faults index (set faults last fault) ≡ namings_of_faults index faults
same_namings index last [] fault is = refl
same_namings index zero (first ∷ faults) fault is = ap (λ keys. namings_of index (keys_told keys) ++ namings_of_faults (index + 1) faults) is
same_namings index (suc last) (first ∷ faults) fault is =
    ap (λ l. namings_of index (keys_told first.keys) ++ l) (same_namings (index + 1) last faults fault is)

abbrev ends_there : ℕ → Fault → Fault
ends_there end fault = record { number = fault.number; keys = fault.keys; begin = fault.begin; end = end }

keys_at : (last end : ℕ) (faults : List Fault) (fault : Fault) → fault ≡ get_or faults last fault → last < length faults
    → fault.keys ≡ (get_or faults last (ends_there end fault)).keys
keys_at last end [] fault is inside = absurd (let no : ⊥ = omega (arith, inside) in no)
keys_at zero end (first ∷ faults) fault is inside = ap (λ f. f.keys) is
keys_at (suc last) end (first ∷ faults) fault is inside = keys_at last end faults fault is (omega (arith, inside))

pub named_reasoned : (line : List ℕ) (was lines : List (List ℕ)) (faults : List Fault) (namings : List Naming) (fault : Fault) (last end : ℕ)
    → lines ≡ was ++ line ∷ [] → last < length faults → fault ≡ get_or faults last fault → AreNamings was faults namings
    → AreNamings lines (set faults last (ends_there end fault)) namings
named_reasoned line was lines faults namings fault last end adds inside is before =
    let ended : Fault = ends_there end fault in
    let mine : HasKeysOfLine (was ++ line ∷ []) fault =
    keys_kept was (line ∷ []) fault (subst (HasKeysOfLine was) (sym is) (before.each last fault inside)) in
    record {
      each =
          subst (λ l. All (HasKeysOfLine l) (set faults last ended)) (sym adds)
          (All-set (HasKeysOfLine (was ++ line ∷ [])) faults last ended (record { inside = mine.inside; keys_are = mine.keys_are })
          (All-weaker (HasKeysOfLine was) (HasKeysOfLine (was ++ line ∷ [])) (keys_kept was (line ∷ [])) faults before.each));
      all = λ test.
          ap (list_any test) (same_namings 0 last faults ended (keys_at last end faults fault is inside)) ∙ before.all test;
    }

-- ---- in another order

pub namings_moved : (lines : List (List ℕ)) (faults : List Fault) (namings sorted : List Naming) → AreNamings lines faults namings → IsPermutation namings sorted
    → AreNamings lines faults sorted
namings_moved lines faults namings sorted are moved =
    record { each = are.each; all = λ test. are.all test ∙ list_any-IsPermutation test namings sorted moved }
