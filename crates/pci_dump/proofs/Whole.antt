-- A block from its lines.
use Rattle.std.proofs.Common.{◌≡◌, ◌≢◌, ◌⊎◌, inl, inr, Option, ℕ, zero, suc, ◌+◌, ◌<◌, ◌≤◌, List, [], ◌∷◌, ◌++◌, refl, arith, sym, ◌∙◌, ap, subst, length, get_or, take, drop, append_assoc, append-nil, Bool, true, false}
use Rattle.std.specs.Prelude.{IfSome, IsTrue}
use Rattle.std.specs.List.{All}
use Rattle.std.proofs.lemmas.List.{length-append, drop-drop, length-take, length-drop, take-append-drop, drop_more, take_all}
use Rattle.pci_spec.specs.Slot.{Slot, IsSlot}
use Rattle.pci_spec.specs.Text.{Block, IsTitle, is_title_byte, slot_text, title_text, block_text, line_ends}
use Rattle.pci_spec.specs.Stops.{IsAboveLast, Stops, InSlot, InLine, AtSlotEnd}
use Rattle.pci_spec.specs.Form.{Fixed, rows_cells, Fits, Breaks, Leaves, slot_cells, rest_cells, rows_text}
use Rattle.pci_spec.proofs.Forms.{fits_append, fits_length, ends_of, line_ends_append, no_end_cons, fits_slot, fits_rows, image_rows, lines_text}
use Rattle.pci_spec.proofs.Stopping.{stop_in_slot, stop_after_slot, stop_at_order, stop_in_title, stop_in_rest, with_slot, with_line, line_has_one_end, no_ends_in_front, title_has_no_end}
use Rattle.pci_spec.proofs.Faults.{ends_in_slot, ends_after_slot, ends_in_title, ends_in_rest, refused_part, taken_part, refused_line, breaks_longer}
use Rattle.pci_dump.specs.declared.parse.BlockFault.{BlockFault}
use Rattle.pci_dump.specs.declared.parse.BlockFault.TheVariants.{BadSlot, BadTitle, BadLine, NoBlank, Order, Ended, EndedFirst}
use Rattle.pci_dump.proofs.Lines.{rest_long}
use Rattle.pci_dump.specs.Value.{AreSmall}
use Rattle.pci_dump.specs.BlockFault.{SlotStops, TitleStops, TitleBreaks, TitleLeaves, RestStops, BlockStops, IsHead, IsBlockAt, title_at, head_long}

abbrev pub sample_slot : List ℕ
sample_slot = 48 ∷ 48 ∷ 58 ∷ 48 ∷ 48 ∷ 46 ∷ 48 ∷ []

pub slot_refused : (part text : List ℕ) → length part < 7 → text ≡ part ++ drop (length part) sample_slot → (Fits slot_cells text → ⊥) → Breaks slot_cells part
slot_refused part text short e none = refused_part slot_cells part short (λ f. none (subst (λ (t : List ℕ). Fits slot_cells t) (sym e) f))

pub slot_taken : (part text : List ℕ) (s : Slot) → length part < 7 → text ≡ part ++ drop (length part) sample_slot → IsSlot s × (text ≡ slot_text s) → Leaves slot_cells part
slot_taken part text s short e h = taken_part slot_cells part (drop (length part) sample_slot) short (subst (λ (t : List ℕ). Fits slot_cells t) (sym h.1 ∙ e) (fits_slot s h.0))

pub short_stops : (last : Option Slot) (bytes : List ℕ) (stop : BlockFault) → bytes ≢ [] → SlotStops bytes stop → BlockStops last bytes stop
short_stops last bytes BadSlot some s = stop_in_slot last bytes s
short_stops last bytes EndedFirst some s = (ends_in_slot last bytes s some, ends_of s.done bytes s.fits ∙ no_ends_in_front s.done s.todo slot_cells refl s.cells_split)
short_stops last bytes BadTitle some s = absurd s
short_stops last bytes (BadLine r) some s = absurd s
short_stops last bytes NoBlank some s = absurd s
short_stops last bytes Order some s = absurd s
short_stops last bytes (Ended r) some s = absurd s

pub no_slot_stops : (last : Option Slot) (bytes text after : List ℕ) → bytes ≡ text ++ after → length text ≡ 7 → (Fits slot_cells text → ⊥) → Stops last bytes InSlot
no_slot_stops last bytes text after e long none =
    stop_in_slot last bytes (subst (λ (t : List ℕ). Breaks slot_cells t) (sym e) (breaks_longer slot_cells text after (refused_line slot_cells text long none)))

with_text : (bytes text after : List ℕ) (s : Slot) → bytes ≡ text ++ after → text ≡ slot_text s → bytes ≡ slot_text s ++ after
with_text bytes text after s e f = e ∙ ap (λ (t : List ℕ). t ++ after) f

pub low_stops : (last : Option Slot) (bytes text after : List ℕ) (s : Slot) → bytes ≡ text ++ after → IsSlot s × (text ≡ slot_text s) → (IsAboveLast last s → ⊥) → Stops last bytes AtSlotEnd
low_stops last bytes text after s e h low = stop_at_order last bytes s after h.0 (with_text bytes text after s e h.1) low

slot_ends : (s : Slot) → IsSlot s → line_ends (slot_text s) ≡ 0
slot_ends s h = ends_of slot_cells (slot_text s) (fits_slot s h)

pub title_stops : (last : Option Slot) (bytes text after : List ℕ) (s : Slot) (stop : BlockFault) → bytes ≡ text ++ after → IsSlot s × (text ≡ slot_text s) → IsAboveLast last s → TitleStops after stop → BlockStops last bytes stop
title_stops last bytes text after s BadSlot e h high t = stop_after_slot last bytes s t.0 (drop 1 after) h.0 (with_text bytes text after s e h.1 ∙ ap (λ (x : List ℕ). slot_text s ++ x) t.1) high t.2 t.3
title_stops last bytes text after s BadTitle e h high t =
    stop_in_title last bytes s t.begun t.c t.more h.0 high t.few t.each (with_text bytes text after s e h.1 ∙ ap (λ (x : List ℕ). slot_text s ++ x) t.split) t.no_line t.full
title_stops last bytes text after s EndedFirst e h high t =
    let whole = with_text bytes text after s e h.1 in
    elim t [
      | inl none ↦
          let all : bytes ≡ slot_text s = whole ∙ ap (λ (x : List ℕ). slot_text s ++ x) none ∙ append-nil (slot_text s) in
          (ends_after_slot last bytes s h.0 high all, ap line_ends all ∙ slot_ends s h.0)
      | inr some ↦
          let all : bytes ≡ with_slot s (32 ∷ some.0) = whole ∙ ap (λ (x : List ℕ). slot_text s ++ x) some.1 in
          let a = ap line_ends all ∙ line_ends_append (slot_text s) (32 ∷ some.0) in
          let b = slot_ends s h.0 in
          let c = no_end_cons 32 some.0 0 (λ z. omega (arith, z)) (title_has_no_end some.0 some.2.each) in
          (ends_in_title last bytes s some.0 h.0 high some.2.few some.2.each all, omega (arith, a, b, c))
    ]
title_stops last bytes text after s (BadLine r) e h high t = absurd t
title_stops last bytes text after s NoBlank e h high t = absurd t
title_stops last bytes text after s Order e h high t = absurd t
title_stops last bytes text after s (Ended r) e h high t = absurd t

line_whole : (bytes text after : List ℕ) (s : Slot) (n : ℕ) → bytes ≡ text ++ after → text ≡ slot_text s → IsHead after n → bytes ≡ with_line s (title_at after n) (drop (head_long n) after)
line_whole bytes text after s n e f h = with_text bytes text after s e f ∙ ap (λ (x : List ℕ). slot_text s ++ x) h.text

pub rest_stops : (last : Option Slot) (bytes text after : List ℕ) (s : Slot) (n : ℕ) (stop : BlockFault) → bytes ≡ text ++ after → IsSlot s × (text ≡ slot_text s) → IsAboveLast last s → IsHead after n
    → RestStops (drop (head_long n) after) stop → BlockStops last bytes stop
rest_stops last bytes text after s n (BadLine r) e h high t k =
    (k.0, subst (λ (j : ℕ). Stops last bytes (InLine (1 + j))) k.1.ends (stop_in_rest last bytes s (title_at after n) (drop (head_long n) after) h.0 t.title high (line_whole bytes text after s n e h.1 t) k.1.breaks))
rest_stops last bytes text after s n NoBlank e h high t k =
    subst (λ (j : ℕ). Stops last bytes (InLine (1 + j))) k.ends (stop_in_rest last bytes s (title_at after n) (drop (head_long n) after) h.0 t.title high (line_whole bytes text after s n e h.1 t) k.breaks)
rest_stops last bytes text after s n (Ended r) e h high t k =
    let all = line_whole bytes text after s n e h.1 t in
    let a = ap line_ends all ∙ line_has_one_end s (title_at after n) (drop (head_long n) after) h.0 t.title in
    (ends_in_rest last bytes s (title_at after n) (drop (head_long n) after) h.0 t.title high all k.0, omega (arith, a, k.1))
rest_stops last bytes text after s n BadSlot e h high t k = absurd k
rest_stops last bytes text after s n BadTitle e h high t k = absurd k
rest_stops last bytes text after s n Order e h high t k = absurd k
rest_stops last bytes text after s n EndedFirst e h high t k = absurd k

pub found_in : (last : Option Slot) (bytes text after : List ℕ) (s : Slot) (n : ℕ) (title : Option (List ℕ)) (image : List ℕ) (used : ℕ) → bytes ≡ text ++ after → length text ≡ 7 → after ≡ drop 7 bytes
    → IsSlot s × (text ≡ slot_text s) → IsAboveLast last s → IsHead after n → title ≡ title_at after n → length image ≡ 256 → AreSmall image
    → drop (head_long n) after ≡ (rows_text 0 16 image ++ 10 ∷ []) ++ drop 833 (drop (head_long n) after) → used ≡ 7 + head_long n + 833
    → IsBlockAt last bytes (record { slot = s; title = title; image = image }) used
found_in last bytes text after s n title image used e seven after_is h high t title_is long small lines_are used_is =
    let b : Block = record { slot = s; title = title; image = image } in
    let rest = rows_text 0 16 image ++ 10 ∷ [] in
    let tail = drop 833 (drop (head_long n) after) in
    let lines = lines_text b rest (ap (λ (x : List ℕ). x ++ 10 ∷ []) (sym (image_rows image 0 16))) in
    let tail_is : tail ≡ drop used bytes =
    drop-drop 833 (head_long n) after ∙ ap (λ (x : List ℕ). drop (head_long n + 833) x) after_is ∙ drop-drop (head_long n + 833) 7 bytes
    ∙ ap (λ (j : ℕ). drop j bytes) (let q : 7 + (head_long n + 833) ≡ used = omega (arith, used_is) in q) in
    let rest_is = ap length lines_are ∙ length-append rest tail in
    let whole = fits_length rest_cells rest (fits_append (rows_cells 0 16) (Fixed 10 ∷ []) (rows_text 0 16 image) (10 ∷ []) (fits_rows 0 16 image long small) (refl, tt)) ∙ rest_long in
    let dropped = length-drop (head_long n) after in
    let all = ap length e ∙ length-append text after in
    record {
      block = record { slot = h.0; title = subst (λ (o : Option (List ℕ)). IfSome o IsTitle) (sym title_is) t.title; image = record { full = long; bytes = small } };
      text = line_whole bytes text after s n e h.1 t ∙ ap (λ (o : Option (List ℕ)). slot_text s ++ (title_text o ++ 10 ∷ drop (head_long n) after)) (sym title_is)
          ∙ ap (λ (x : List ℕ). slot_text s ++ (title_text title ++ 10 ∷ x)) lines_are
          ∙ ap (λ (x : List ℕ). slot_text s ++ x) (sym (append_assoc (title_text title) (10 ∷ rest) tail))
          ∙ sym (append_assoc (slot_text s) (title_text title ++ 10 ∷ rest) tail)
          ∙ ap (λ (x : List ℕ). x ++ tail) (sym lines) ∙ ap (λ (x : List ℕ). block_text b ++ x) tail_is;
      above = high;
      fits = (let fit = t.fits in omega (arith, all, seven, dropped, rest_is, whole, fit, used_is));
    }

pub not_false : (b : Bool) → b ≡ false → b ≡ true → ⊥
not_false true e f = absurd cc
not_false false e f = absurd cc

-- ---- titles

pub title_breaks : (bytes : List ℕ) (n : ℕ) → bytes ≡ 32 ∷ drop 1 bytes → n ≤ length (drop 1 bytes) → n ≤ 200 → n ≢ length (drop 1 bytes) → All (λ c. IsTrue (is_title_byte c)) (take n (drop 1 bytes))
    → (n < length (drop 1 bytes) → IsTrue (is_title_byte (get_or (drop 1 bytes) n 0)) → n ≡ 200) → (get_or (drop 1 bytes) n 0 ≡ 10 → n ≡ 0) → TitleBreaks bytes
title_breaks bytes n e within few more each last no_line =
    let rest = drop 1 bytes in
    let here : n < length rest = omega (arith, within, more) in
    let t = length-take n rest in
    record {
      begun = take n rest;
      c = get_or rest n 0;
      more = drop (n + 1) rest;
      split = e ∙ ap (λ (x : List ℕ). 32 ∷ x) (sym (take-append-drop n rest) ∙ ap (λ (x : List ℕ). take n rest ++ x) (drop_more rest n 0 here));
      few = omega (arith, t, few, here);
      each = each;
      no_line = (λ f. let z = no_line f in ap (λ (j : ℕ). take j rest) z);
      full = (λ f. let z = last here f in omega (arith, t, z, here));
    }

pub head_there : (bytes : List ℕ) (n : ℕ) → bytes ≡ 32 ∷ drop 1 bytes → n ≤ length (drop 1 bytes) → n ≤ 200 → n ≢ length (drop 1 bytes) → All (λ c. IsTrue (is_title_byte c)) (take n (drop 1 bytes))
    → get_or (drop 1 bytes) n 0 ≡ 10 → n ≢ 0 → IsHead bytes n
head_there bytes zero e within few more each line some = absurd (some refl)
head_there bytes (suc n) e within few more each line some =
    let rest = drop 1 bytes in
    let here : suc n < length rest = omega (arith, within, more) in
    let t = length-take (suc n) rest in
    let l = length-drop 1 bytes in
    let next : drop (suc n + 1) rest ≡ drop (suc n + 2) bytes = drop-drop (suc n + 1) 1 bytes ∙ ap (λ (j : ℕ). drop j bytes) (let q : 1 + (suc n + 1) ≡ suc n + 2 = omega arith in q) in
    record {
      title = (omega (arith, t, here), omega (arith, t, here, few), each);
      text = e ∙ ap (λ (x : List ℕ). 32 ∷ x) (sym (take-append-drop (suc n) rest) ∙ ap (λ (x : List ℕ). take (suc n) rest ++ x) (drop_more rest (suc n) 0 here ∙ (λ i. line i ∷ next i)));
      fits = omega (arith, l, here);
    }

pub title_leaves : (bytes : List ℕ) (n : ℕ) → bytes ≡ 32 ∷ drop 1 bytes → n ≤ 200 → n ≡ length (drop 1 bytes) → All (λ c. IsTrue (is_title_byte c)) (take n (drop 1 bytes))
    → (bytes ≡ []) ⊎ ((begun : List ℕ) × (bytes ≡ 32 ∷ begun) × TitleLeaves begun)
title_leaves bytes n e few all each =
    inr (drop 1 bytes, e, record { few = omega (arith, few, all); each = subst (λ (x : List ℕ). All (λ c. IsTrue (is_title_byte c)) x) (take_all n (drop 1 bytes) (omega (arith, all))) each })

pub title_breaks_at : (bytes rest : List ℕ) (n : ℕ) → bytes ≡ 32 ∷ drop 1 bytes → rest ≡ drop 1 bytes → n ≤ length rest → n ≤ 200 → n ≢ length rest → All (λ c. IsTrue (is_title_byte c)) (take n rest)
    → (n < length rest → IsTrue (is_title_byte (get_or rest n 0)) → n ≡ 200) → (get_or rest n 0 ≡ 10 → n ≡ 0) → TitleBreaks bytes
title_breaks_at bytes rest n e r within few more each last no_line =
    title_breaks bytes n e (subst (λ (x : List ℕ). n ≤ length x) r within) few (subst (λ (x : List ℕ). n ≢ length x) r more) (subst (λ (x : List ℕ). All (λ c. IsTrue (is_title_byte c)) (take n x)) r each)
    (subst (λ (x : List ℕ). n < length x → IsTrue (is_title_byte (get_or x n 0)) → n ≡ 200) r last) (subst (λ (x : List ℕ). get_or x n 0 ≡ 10 → n ≡ 0) r no_line)

pub head_at : (bytes rest : List ℕ) (n : ℕ) → bytes ≡ 32 ∷ drop 1 bytes → rest ≡ drop 1 bytes → n ≤ length rest → n ≤ 200 → n ≢ length rest → All (λ c. IsTrue (is_title_byte c)) (take n rest)
    → get_or rest n 0 ≡ 10 → n ≢ 0 → IsHead bytes n
head_at bytes rest n e r within few more each line some =
    head_there bytes n e (subst (λ (x : List ℕ). n ≤ length x) r within) few (subst (λ (x : List ℕ). n ≢ length x) r more) (subst (λ (x : List ℕ). All (λ c. IsTrue (is_title_byte c)) (take n x)) r each)
    (subst (λ (x : List ℕ). get_or x n 0 ≡ 10) r line) some

pub title_leaves_at : (bytes rest : List ℕ) (n : ℕ) → bytes ≡ 32 ∷ drop 1 bytes → rest ≡ drop 1 bytes → n ≤ 200 → n ≡ length rest → All (λ c. IsTrue (is_title_byte c)) (take n rest)
    → (bytes ≡ []) ⊎ ((begun : List ℕ) × (bytes ≡ 32 ∷ begun) × TitleLeaves begun)
title_leaves_at bytes rest n e r few all each = title_leaves bytes n e few (all ∙ ap length r) (subst (λ (x : List ℕ). All (λ c. IsTrue (is_title_byte c)) (take n x)) r each)
