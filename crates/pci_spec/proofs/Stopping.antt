-- Where a block stops, from where its lines do.
use Rattle.std.proofs.Common.{◌≡◌, ◌≢◌, ℕ, zero, suc, ◌+◌, ◌<◌, ◌≤◌, inl, inr, List, [], ◌∷◌, ◌++◌, refl, Option, None, Some, arith, sym, ◌∙◌, ap, subst, length, get_or, append_assoc, append-nil, map}
use Rattle.std.specs.Prelude.{IfSome, IsTrue}
use Rattle.std.specs.List.{All}
use Rattle.std.proofs.lemmas.Bool.{cases_lt}
use Rattle.std.proofs.lemmas.List.{length-append, get_or_at}
use Rattle.pci_spec.specs.Slot.{Slot, IsSlot}
use Rattle.pci_spec.specs.Text.{Block, IsBlock, IsTitle, is_title_byte, slot_text, title_text, block_text, IsPartOf, BeginsBlock, line_ends, hex_digit, hex_byte}
use Rattle.pci_spec.specs.Stops.{IsAboveLast, IsStartOf, Stops, InSlot, InTitleText, InLine, AtSlotEnd}
use Rattle.pci_spec.specs.Form.{Cell, Fixed, Digit, InTitle, Fits, Breaks, slot_cells, rest_cells, ends_in}
use Rattle.pci_spec.proofs.Spelling.{tail_same, head_same, title_byte, slot_same, title_same}
use Rattle.pci_spec.proofs.Forms.{fits_append, fits_length, takes_at, filler, filled, slot_of, fits_slot, made_of, parts_of, ends_of, line_ends_append, line_ends_cons, no_end_cons}

-- the longer of two beginnings
pub record Longer (a b x y : List ℕ) : Type 0 where
  pub r : List ℕ
  pub whole : x ≡ a ++ r
  pub rest : b ≡ r ++ y

pub longer : (a b x y : List ℕ) → a ++ b ≡ x ++ y → length a ≤ length x → Longer a b x y
longer [] b x y e l = record { r = x; whole = refl; rest = e }
longer (p ∷ a) b [] y e l = absurd (let no : ⊥ = omega (arith, l) in no)
longer (p ∷ a) b (q ∷ x) y e l =
    let s = longer a b x y (tail_same _ _ _ _ e) (omega (arith, l)) in
    let h = head_same _ _ _ _ e in
    let back = sym h in
    record { r = s.r; whole = (λ i. back i ∷ s.whole i); rest = s.rest }

-- no text of the cells begins so
pub no_fit : (cells bytes : List ℕ) (ts : List Cell) → (k : Breaks ts bytes) → (a rest x : List ℕ) → Fits ts a → (k.part ++ k.c ∷ []) ++ rest ≡ a ++ x → ⊥
no_fit cells bytes ts k a rest x h e =
    let part_long = fits_length k.done k.part k.fits in
    let one = length-append k.part (k.c ∷ []) in
    let all = ap length k.cells_split ∙ length-append k.done (k.cell ∷ k.todo) in
    let a_long = fits_length ts a h in
    let s = longer (k.part ++ k.c ∷ []) rest a x e (omega (arith, part_long, one, all, a_long)) in
    let text : a ≡ k.part ++ k.c ∷ s.r = s.whole ∙ append_assoc k.part (k.c ∷ []) s.r in
    k.wrong (takes_at k.done k.cell k.todo k.part k.c s.r part_long (subst (λ (t : List ℕ). Fits (k.done ++ k.cell ∷ k.todo) t) text (subst (λ (cs : List Cell). Fits cs a) k.cells_split h)))

-- a block begins with any slot's beginning
pub begun_in_slot : (done todo : List Cell) (part : List ℕ) → slot_cells ≡ done ++ todo → Fits done part → BeginsBlock part
begun_in_slot done todo part e h =
    let text = part ++ map filler todo in
    let s = slot_of text (subst (λ (cs : List Cell). Fits cs text) (sym e) (fits_append done todo part (map filler todo) h (filled todo))) in
    let m = made_of s.0 None (map filler rest_cells) s.1 tt (filled rest_cells) in (
      m.block,
      record {
        block = m.holds;
        rest = map filler todo ++ 10 ∷ map filler rest_cells;
        unfinished = (λ z. let n = ap length z in let l = length-append (map filler todo) (10 ∷ map filler rest_cells) in let no : ⊥ = omega (arith, n, l) in no);
        whole = sym (append_assoc part (map filler todo) (10 ∷ map filler rest_cells)) ∙ ap (λ (t : List ℕ). t ++ 10 ∷ map filler rest_cells) s.2 ∙ m.text;
      },
    )

-- a slot's bytes and more, with any text that may follow
abbrev pub with_slot : Slot → List ℕ → List ℕ
with_slot s t = slot_text s ++ t

pub begun_after : (s : Slot) (title : Option (List ℕ)) (t more rest : List ℕ) → IsSlot s → IfSome title IsTitle → Fits rest_cells rest → more ≢ [] → t ++ more ≡ title_text title ++ 10 ∷ rest
    → (b : Block) × IsPartOf (with_slot s t) b × (b.slot ≡ s)
begun_after s title t more rest hs ht hr some e =
    let m = made_of s title rest hs ht hr in
    (m.block, record { block = m.holds; rest = more; unfinished = some; whole = append_assoc (slot_text s) t more ∙ ap (λ (x : List ℕ). slot_text s ++ x) e ∙ m.text }, m.its_slot)

-- what a block that begins with a slot has after it
pub record After (s : Slot) (t : List ℕ) (b : Block) : Type 0 where
  pub slot : s ≡ b.slot
  pub rest : List ℕ
  pub fits : Fits rest_cells rest
  pub text : t ≡ title_text b.title ++ 10 ∷ rest

pub after_slot : (s : Slot) (t : List ℕ) (b : Block) → IsBlock b → slot_text s ++ t ≡ block_text b → After s t b
after_slot s t b h e =
    let p = parts_of b h in
    let same = slot_same s b.slot t (title_text b.title ++ 10 ∷ p.rest) (e ∙ p.text) in
    record { slot = same.0; rest = p.rest; fits = p.fits; text = same.1 }

pub above_same : (last : Option Slot) (s t : Slot) → s ≡ t → IsAboveLast last s → IsAboveLast last t
above_same last s t e h = subst (λ (x : Slot). IsAboveLast last x) e h

slot_has_no_end : (s : Slot) → IsSlot s → line_ends (slot_text s) ≡ 0
slot_has_no_end s h = ends_of slot_cells (slot_text s) (fits_slot s h)

-- cells without a line end have none in front
pub ends_append : (a b : List Cell) → ends_in (a ++ b) ≡ ends_in a + ends_in b
ends_append [] b = omega arith
ends_append (Fixed n ∷ a) b = let r = ends_append a b in omega (arith, r)
ends_append (Digit n ∷ a) b = ends_append a b
ends_append (InTitle ∷ a) b = ends_append a b

pub no_ends_in_front : (a b cells : List Cell) → ends_in cells ≡ 0 → cells ≡ a ++ b → ends_in a ≡ 0
no_ends_in_front a b cells z e = let r = ends_append a b in let q = ap ends_in e in omega (arith, z, q, r)

-- ---- in the slot

pub stop_in_slot : (last : Option Slot) (bytes : List ℕ) → Breaks slot_cells bytes → Stops last bytes InSlot
stop_in_slot last bytes k =
    let part_long = fits_length k.done k.part k.fits in
    let all = ap length k.cells_split ∙ length-append k.done (k.cell ∷ k.todo) in
    let b = begun_in_slot k.done (k.cell ∷ k.todo) k.part k.cells_split k.fits in
    let none : (b : Block) → IsStartOf (k.part ++ k.c ∷ []) b → ⊥ = λ b s.
    let p = parts_of b s.block in
    no_fit bytes bytes slot_cells k (slot_text b.slot) s.rest (title_text b.title ++ 10 ∷ p.rest) (fits_slot b.slot s.block.slot) (s.whole ∙ p.text) in
    record {
      part = k.part;
      c = k.c;
      stop = record {
        more = k.more;
        split = k.split;
        block = b.0;
        begun = b.1;
        above = (λ h. absurd (let no : ⊥ = omega (arith, h, part_long, all) in no));
        no = (λ b s _. none b s);
      };
      holds = (
        omega (arith, part_long, all),
        (λ q. none q.0 (record { block = q.1.block; rest = q.1.rest; whole = q.1.whole })),
        ends_of k.done k.part k.fits ∙ no_ends_in_front k.done (k.cell ∷ k.todo) slot_cells refl k.cells_split,
      );
    }

-- ---- after the slot

abbrev pub sample : List ℕ
sample = map filler rest_cells

regroup : (s : Slot) (t : List ℕ) (c : ℕ) (rest : List ℕ) → (with_slot s t ++ c ∷ []) ++ rest ≡ slot_text s ++ (t ++ c ∷ rest)
regroup s t c rest = append_assoc (with_slot s t) (c ∷ []) rest ∙ append_assoc (slot_text s) t (c ∷ rest)

-- the slot isn't above the last
pub stop_at_order : (last : Option Slot) (bytes : List ℕ) (s : Slot) (more : List ℕ) → IsSlot s → bytes ≡ slot_text s ++ more → (IsAboveLast last s → ⊥) → Stops last bytes AtSlotEnd
stop_at_order last bytes s more hs e low =
    let front : List ℕ = hex_byte s.bus ++ (58 ∷ hex_byte s.device) ++ (46 ∷ []) in
    let c = hex_digit s.function in
    let whole = begun_after s None [] (10 ∷ sample) sample hs tt (filled rest_cells) (λ z. let n = ap length z in let no : ⊥ = omega (arith, n) in no) refl in
    record {
      part = front;
      c = c;
      stop = record {
        more = more;
        split = e;
        block = whole.0;
        begun = record { block = whole.1.block; rest = c ∷ whole.1.rest; unfinished = (λ z. let n = ap length z in let no : ⊥ = omega (arith, n) in no); whole = whole.1.whole };
        above = (λ h. absurd (let no : ⊥ = omega (arith, h) in no));
        no = (λ b st above. let a = after_slot s st.rest b st.block st.whole in low (above_same last b.slot s (sym a.slot) (above (omega arith))));
      };
      holds = (refl, (whole.0, whole.1), (let z = line_ends_append front (c ∷ []) in let w = slot_has_no_end s hs in omega (arith, z, w)));
    }

pub some_end : (xs : List ℕ) (c : ℕ) (ys : List ℕ) → xs ++ c ∷ ys ≢ []
some_end xs c ys z = let n = ap length z in let l = length-append xs (c ∷ ys) in let no : ⊥ = omega (arith, n, l) in no

not_title : (title : Option (List ℕ)) (c : ℕ) (rest more : List ℕ) → c ≢ 10 → c ≢ 32 → c ∷ rest ≡ title_text title ++ 10 ∷ more → ⊥
not_title None c rest more a b e = a (head_same _ _ _ _ e)
not_title (Some t) c rest more a b e = b (head_same _ _ _ _ e)

title_ends : (t u r : List ℕ) (c : ℕ) (more rest : List ℕ) → All (λ c. IsTrue (is_title_byte c)) u → length t < length u → u ≡ t ++ r → 10 ∷ more ≡ r ++ c ∷ rest → ⊥
title_ends t u [] c more rest hu short e f = let n = ap length (e ∙ append-nil t) in omega (arith, n, short)
title_ends t u (x ∷ r) c more rest hu short e f =
    let at : get_or u (length t) 0 ≡ x = ap (λ (l : List ℕ). get_or l (length t) 0) e ∙ get_or_at t x r 0 (length t) refl in
    title_byte (get_or u (length t) 0) (hu (length t) 0 short) (at ∙ sym (head_same _ _ _ _ f))

title_goes_on : (t u r : List ℕ) (c : ℕ) (more rest : List ℕ) → IsTitle t → (c ≡ 10 → u ≡ []) → (IsTrue (is_title_byte c) → length u ≡ 200) → t ≡ u ++ r → c ∷ rest ≡ r ++ 10 ∷ more → ⊥
title_goes_on t u [] c more rest ht no_line full e f =
    let u_none = no_line (head_same _ _ _ _ f) in
    let n = ap length (e ∙ append-nil u ∙ u_none) in
    omega (arith, n, ht.0)
title_goes_on t u (x ∷ r) c more rest ht no_line full e f =
    let long : length t ≡ length u + suc (length r) = ap length e ∙ length-append u (x ∷ r) in
    let at : get_or t (length u) 0 ≡ c = ap (λ (l : List ℕ). get_or l (length u) 0) e ∙ get_or_at u x r 0 (length u) refl ∙ sym (head_same _ _ _ _ f) in
    let taken : IsTrue (is_title_byte c) = subst (λ (x : ℕ). IsTrue (is_title_byte x)) at (ht.2 (length u) 0 (omega (arith, long))) in
    omega (arith, full taken, ht.1, long)

-- the byte after the slot is no space and no line end
pub stop_after_slot : (last : Option Slot) (bytes : List ℕ) (s : Slot) (c : ℕ) (more : List ℕ) → IsSlot s → bytes ≡ slot_text s ++ c ∷ more → IsAboveLast last s
    → c ≢ 10 → c ≢ 32 → Stops last bytes InSlot
stop_after_slot last bytes s c more hs e high no_line no_space =
    let b = begun_after s None [] (10 ∷ sample) sample hs tt (filled rest_cells) (some_end [] 10 sample) refl in
    let none : (b : Block) → IsStartOf (slot_text s ++ c ∷ []) b → ⊥ = λ b st.
    let a = after_slot s (c ∷ st.rest) b st.block (sym (append_assoc (slot_text s) (c ∷ []) st.rest) ∙ st.whole) in
    not_title b.title c st.rest a.rest no_line no_space a.text in
    record {
      part = slot_text s;
      c = c;
      stop = record {
        more = more;
        split = e;
        block = b.0;
        begun = record { block = b.1.block; rest = b.1.rest; unfinished = b.1.unfinished; whole = b.1.whole };
        above = (λ _. above_same last s b.0.slot (sym b.2) high);
        no = (λ b st _. none b st);
      };
      holds = (omega arith, (λ q. none q.0 (record { block = q.1.block; rest = q.1.rest; whole = q.1.whole })), slot_has_no_end s hs);
    }

-- ---- in the title

title_no : (t u : List ℕ) (c : ℕ) (rest more : List ℕ) → IsTitle t → All (λ c. IsTrue (is_title_byte c)) u → (c ≡ 10 → u ≡ []) → (IsTrue (is_title_byte c) → length u ≡ 200)
    → u ++ c ∷ rest ≡ t ++ 10 ∷ more → ⊥
title_no t u c rest more ht hu no_line full e = elim (cases_lt (length t) (length u)) [
  | inl short ↦
      let s = longer t (10 ∷ more) u (c ∷ rest) (sym e) (omega arith) in
      title_ends t u s.r c more rest hu short s.whole s.rest
  | inr long ↦
      let s = longer u (c ∷ rest) t (10 ∷ more) e long in
      title_goes_on t u s.r c more rest ht no_line full s.whole s.rest
]

pub title_has_no_end : (u : List ℕ) → All (λ c. IsTrue (is_title_byte c)) u → line_ends u ≡ 0
title_has_no_end [] h = refl
title_has_no_end (x ∷ u) h = no_end_cons x u 0 (title_byte x (h 0 0 (omega arith))) (title_has_no_end u (λ k d l. h (suc k) d (omega (arith, l))))

one_title : (k d : ℕ) → k < 1 → IsTrue (is_title_byte (get_or (97 ∷ []) k d))
one_title zero d h = refl
one_title (suc k) d h = absurd (omega (arith, h))

-- a title with these bytes
pub begun_title : (s : Slot) (u : List ℕ) → IsSlot s → length u ≤ 200 → All (λ c. IsTrue (is_title_byte c)) u → (b : Block) × IsPartOf (with_slot s (32 ∷ u)) b × (b.slot ≡ s)
begun_title s [] hs few hu =
    begun_after s (Some (97 ∷ [])) (32 ∷ []) (97 ∷ 10 ∷ sample) sample hs (omega arith, omega arith, λ k d l. one_title k d (omega (arith, l))) (filled rest_cells) (some_end [] 97 (10 ∷ sample)) refl
begun_title s (x ∷ u) hs few hu =
    begun_after s (Some (x ∷ u)) (32 ∷ x ∷ u) (10 ∷ sample) sample hs (omega arith, few, hu) (filled rest_cells) (some_end [] 10 sample) refl

no_other_title : (title : Option (List ℕ)) (u : List ℕ) (c : ℕ) (rest more : List ℕ) → IfSome title IsTitle → All (λ c. IsTrue (is_title_byte c)) u → (c ≡ 10 → u ≡ []) → (IsTrue (is_title_byte c) → length u ≡ 200)
    → 32 ∷ u ++ c ∷ rest ≡ title_text title ++ 10 ∷ more → ⊥
no_other_title None u c rest more ht hu no_line full e = let h = head_same _ _ _ _ e in let no : ⊥ = omega (arith, h) in no
no_other_title (Some t) u c rest more ht hu no_line full e = title_no t u c rest more ht hu no_line full (tail_same _ _ _ _ e)

pub stop_in_title : (last : Option Slot) (bytes : List ℕ) (s : Slot) (u : List ℕ) (c : ℕ) (more : List ℕ) → IsSlot s → IsAboveLast last s → length u ≤ 200 → All (λ c. IsTrue (is_title_byte c)) u
    → bytes ≡ slot_text s ++ (32 ∷ u ++ c ∷ more) → (c ≡ 10 → u ≡ []) → (IsTrue (is_title_byte c) → length u ≡ 200) → Stops last bytes InTitleText
stop_in_title last bytes s u c more hs high few hu e no_line full =
    let b = begun_title s u hs few hu in
    let a = slot_has_no_end s hs in
    let z = no_end_cons 32 u 0 (λ z. omega (arith, z)) (title_has_no_end u hu) in
    let w = line_ends_append (slot_text s) (32 ∷ u) in
    record {
      part = with_slot s (32 ∷ u);
      c = c;
      stop = record {
        more = more;
        split = e ∙ sym (append_assoc (slot_text s) (32 ∷ u) (c ∷ more));
        block = b.0;
        begun = b.1;
        above = (λ _. above_same last s b.0.slot (sym b.2) high);
        no = (λ o st _.
            let f = after_slot s (32 ∷ u ++ c ∷ st.rest) o st.block (sym (regroup s (32 ∷ u) c st.rest) ∙ st.whole) in
            no_other_title o.title u c st.rest f.rest st.block.title hu no_line full f.text);
      };
      holds = ((let l = length-append (slot_text s) (32 ∷ u) in omega (arith, l)), omega (arith, a, z, w));
    }

-- ---- after the slot line

abbrev pub with_line : Slot → Option (List ℕ) → List ℕ → List ℕ
with_line s title t = with_slot s (title_text title ++ 10 ∷ t)

pub line_has_one_end : (s : Slot) (title : Option (List ℕ)) (t : List ℕ) → IsSlot s → IfSome title IsTitle → line_ends (with_line s title t) ≡ 1 + line_ends t
line_has_one_end s None t hs ht =
    let a = line_ends_append (slot_text s) (10 ∷ t) in let b = slot_has_no_end s hs in let c = line_ends_cons 10 t in omega (arith, a, b, c)
line_has_one_end s (Some u) t hs ht =
    let a = line_ends_append (slot_text s) (32 ∷ u ++ 10 ∷ t) in let b = slot_has_no_end s hs in
    let c = line_ends_append (32 ∷ u) (10 ∷ t) in let d = line_ends_cons 10 t in
    let z = no_end_cons 32 u 0 (λ z. omega (arith, z)) (title_has_no_end u ht.2) in
    omega (arith, a, b, c, d, z)

some_cells : (cell : Cell) (todo : List Cell) → cell ∷ todo ≢ []
some_cells cell todo z = let n = ap length z in let no : ⊥ = omega (arith, n) in no

not_filled : (todo : List Cell) → todo ≢ [] → map filler todo ≢ []
not_filled [] h z = h refl
not_filled (t ∷ todo) h z = let n = ap length z in let no : ⊥ = omega (arith, n) in no

pub begun_rest : (s : Slot) (title : Option (List ℕ)) (done todo : List Cell) (part : List ℕ) → IsSlot s → IfSome title IsTitle → rest_cells ≡ done ++ todo → todo ≢ [] → Fits done part
    → (b : Block) × IsPartOf (with_line s title part) b × (b.slot ≡ s)
begun_rest s title done todo part hs ht e some h =
    begun_after s title (title_text title ++ 10 ∷ part) (map filler todo) (part ++ map filler todo) hs ht
    (subst (λ (cs : List Cell). Fits cs (part ++ map filler todo)) (sym e) (fits_append done todo part (map filler todo) h (filled todo)))
    (not_filled todo some) (append_assoc (title_text title) (10 ∷ part) (map filler todo))

pub stop_in_rest : (last : Option Slot) (bytes : List ℕ) (s : Slot) (title : Option (List ℕ)) (t : List ℕ) → IsSlot s → IfSome title IsTitle → IsAboveLast last s
    → bytes ≡ with_line s title t → (k : Breaks rest_cells t) → Stops last bytes (InLine (1 + ends_in k.done))
stop_in_rest last bytes s title t hs ht high e k =
    let b = begun_rest s title k.done (k.cell ∷ k.todo) k.part hs ht k.cells_split (some_cells k.cell k.todo) k.fits in
    let a = line_has_one_end s title k.part hs ht in
    let z = ends_of k.done k.part k.fits in
    record {
      part = with_line s title k.part;
      c = k.c;
      stop = record {
        more = k.more;
        split = e ∙ ap (λ (x : List ℕ). with_line s title x) k.split ∙ ap (λ (x : List ℕ). slot_text s ++ x) (sym (append_assoc (title_text title) (10 ∷ k.part) (k.c ∷ k.more)))
            ∙ sym (append_assoc (slot_text s) (title_text title ++ 10 ∷ k.part) (k.c ∷ k.more));
        block = b.0;
        begun = b.1;
        above = (λ _. above_same last s b.0.slot (sym b.2) high);
        no = (λ o st _.
            let f = after_slot s ((title_text title ++ 10 ∷ k.part) ++ k.c ∷ st.rest) o st.block (sym (regroup s (title_text title ++ 10 ∷ k.part) k.c st.rest) ∙ st.whole) in
            let g = title_same title o.title (k.part ++ k.c ∷ st.rest) f.rest ht st.block.title (sym (append_assoc (title_text title) (10 ∷ k.part) (k.c ∷ st.rest)) ∙ f.text) in
            no_fit t t rest_cells k f.rest st.rest [] f.fits (append_assoc k.part (k.c ∷ []) st.rest ∙ g.1 ∙ sym (append-nil f.rest)));
      };
      holds = omega (arith, a, z);
    }
