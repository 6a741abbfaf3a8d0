-- The tree of buses, while it is drawn.
use Rattle.std.proofs.Common.{◌≡◌, ◌<◌, ◌+◌, ◌-◌, ◌^◌, ◌==◌, ◌||◌, ℕ, zero, suc, Bool, true, false, not, cond, List, [], ◌∷◌, ◌++◌, length, take, drop, reverse, get_or, set, Option, Some, None, Bor, refl, sym, ap, subst, ◌∙◌, inl, inr, arith}
use Rattle.std.specs.Prelude.{min}
use Rattle.std.specs.List.{filter, sum_by}
use Rattle.std.specs.Slice.{IsItemAt}
use Rattle.std.specs.Option.{IfSome}
use Rattle.std.proofs.lemmas.Bool.{cases_eq, cases_lt, cases_Bool, eq-eqb, ltb-true, ne_eqb}
use Rattle.std.proofs.lemmas.List.{append-nil, append_assoc, drop_more, get_or_past, get_or-set_other, get_or-set_same, length-drop, length-take, reverse-append}
use Rattle.std.proofs.lemmas.List.Sums.{sum_by-append}
use Rattle.pci_picture.specs.Roots.{listed_function, listed_functions, secondary_of}
use Rattle.pci_picture.specs.Rows.{TreeRow, tree_row_text}
use Rattle.pci_picture.specs.Slots.{bus_of_slot}
use Rattle.pci_picture.specs.Starts.{StandOnBus, functions_on}
use Rattle.pci_picture.specs.Trees.{AreTreeRows, AreWritten, IsRowAt, TreePlace, undrawn_behind, down, if_undrawn, is_drawn, listed_on, no_row, none_written, one_row, row_written, rows_behind, steps_behind}
use Rattle.pci_picture.specs.Walks.{AreMarked, IsBusBegun, IsNextFunction, if_unmarked, left_between, left_of, place_of, unmarked_behind}
use Rattle.pci_picture.specs.declared.badge.Badge.{Badge}
use Rattle.pci_picture.specs.declared.function.Function.{Function}
use Rattle.pci_picture.specs.declared.tree.Rest.{Rest}

-- ---- rows below each other

pub written_more : (badges : List Badge) (y end : ℕ) (places : List TreePlace) (text : List ℕ) (place : TreePlace) (row : TreeRow)
    → AreWritten badges y places text end → IsRowAt badges end place row
    → AreWritten badges y (places ++ place ∷ []) (text ++ tree_row_text row) (down end 14)
written_more badges _ _ _ _ place row (none_written y) stands =
    subst (λ t. AreWritten badges y (place ∷ []) t (down y 14)) (append-nil (tree_row_text row))
    (row_written y (down y 14) place row [] [] stands (none_written (down y 14)))
written_more badges _ _ _ _ place row (row_written y end first above places text is rest) stands =
    subst (λ t. AreWritten badges y (first ∷ (places ++ place ∷ [])) t (down end 14)) (sym (append_assoc (tree_row_text above) text (tree_row_text row)))
    (row_written y (down end 14) first above (places ++ place ∷ []) (text ++ tree_row_text row) is (written_more badges (down y 14) end places text place row rest stands))

-- ---- the first function that is left

pub next_there : (functions : List Function) (rest : Rest) (function : Function) → rest.next < rest.end → rest.next < length functions
    → function ≡ get_or functions rest.next function → IsNextFunction functions rest function
next_there functions rest function some inside found =
    let more : rest.end - rest.next ≡ suc (rest.end - (rest.next + 1)) = omega (arith, some) in
    record {
      own = (rest.next, inside, sym found);
      some = some;
      splits =
          ap (take (rest.end - rest.next)) (drop_more functions rest.next function inside)
          ∙ ap (λ n. take n (get_or functions rest.next function ∷ drop (rest.next + 1) functions)) more
          ∙ ap (λ f. f ∷ left_between functions (rest.next + 1) rest.end) (sym found);
    }

-- ---- functions of a board, and those that are listed

pub on_listed : (functions : List Function) (bus : ℕ) → listed_functions (functions_on bus functions) ≡ listed_on bus (listed_functions functions)
on_listed [] bus = refl
on_listed (function ∷ functions) bus = elim (bus_of_slot function.number == bus) as (λ b.
    listed_functions (cond b (function ∷ functions_on bus functions) (functions_on bus functions))
    ≡ cond b (listed_function function ∷ listed_on bus (listed_functions functions)) (listed_on bus (listed_functions functions))) [
      | true ↦ ap (λ l. listed_function function ∷ l) (on_listed functions bus)
      | false ↦ on_listed functions bus
    ]

-- ---- marks of buses

pub marked_too : (marks : List Bool) (drawn : List ℕ) (bus : ℕ) → length marks ≡ 256 → bus < 256 → AreMarked marks drawn → AreMarked (set marks bus true) (bus ∷ drawn)
marked_too marks drawn bus long small marked other low = elim (cases_eq other bus) [
  | inl same ↦
      ap (λ n. get_or (set marks bus true) n false) same ∙ get_or-set_same marks bus true false (omega (arith, long, small))
      ∙ sym (ap (λ b. b || is_drawn drawn other) (eq-eqb bus other (sym same)))
  | inr apart ↦
      get_or-set_other marks bus other true false apart ∙ marked other low
      ∙ sym (ap (λ b. b || is_drawn drawn other) (ne_eqb bus other (λ same. apart (sym same))))
]

module _ (marks : List Bool) (drawn : List ℕ) (long : length marks ≡ 256) (marked : AreMarked marks drawn) where
  marked_low : (bus : ℕ) → get_or marks bus false ≡ true → bus < 256
  marked_low bus is = elim (cases_lt bus 256) [
    | inl small ↦ small
    | inr past ↦ let none : false ≡ true = sym (get_or_past marks bus false (omega (arith, long, past))) ∙ is in cc
  ]

  pub none_behind : (bus : Option ℕ) → if_unmarked marks bus ≡ None → if_undrawn drawn bus ≡ None
  none_behind None none = refl
  none_behind (Some bus) none = elim (cases_Bool (get_or marks bus false)) [
    | inl on ↦ rw (sym (marked bus (marked_low bus on)) ∙ on) refl
    | inr off ↦ let bad : Some bus ≡ None = sym (rw off refl) ∙ none in cc
  ]

  pub some_behind : (bus : Option ℕ) (number : ℕ) → if_unmarked marks bus ≡ Some number → number < 256 → get_or marks number false ≡ false
      → if_undrawn drawn bus ≡ Some number
  some_behind None number some small off = cc
  some_behind (Some bus) number some small unmarked = elim (cases_Bool (get_or marks bus false)) [
    | inl on ↦ let bad : None ≡ Some number = sym (rw on refl) ∙ some in cc
    | inr off ↦
        let is : Some bus ≡ Some number = sym (rw off refl) ∙ some in
        let same : bus ≡ number = cc in
        rw (sym (marked bus (omega (arith, same, small))) ∙ off) is
  ]

-- ---- what remains to be drawn below a root

-- some rows are followed by those of the functions that are left, the last begun bus first
abbrev pub Fills : List Function → List ℕ → ℕ → List Rest → List ℕ → List TreePlace → Type 0
Fills functions before root [] drawn rows =
    AreTreeRows (listed_functions functions) (root ∷ before) 0 (listed_on root (listed_functions functions)) rows drawn
Fills functions before root (rest ∷ rests) drawn rows =
    (more : List TreePlace) (after : List ℕ) → AreTreeRows (listed_functions functions) drawn (min rest.depth 12) (listed_functions (left_of functions rest)) more after
    → Fills functions before root rests after (rows ++ more)

-- without its first function
abbrev pub behind_first : Rest → Rest
behind_first rest = record { next = rest.next + 1; end = rest.end; depth = rest.depth }

module _ (functions : List Function) (before : List ℕ) (root : ℕ) where
  pub fills_begin : (rest : Rest) → StandOnBus functions root rest.next rest.end → rest.depth ≡ 0
      → Fills functions before root (rest ∷ []) (root ∷ before) []
  fills_begin rest on deep more after are =
      subst (λ n. AreTreeRows (listed_functions functions) (root ∷ before) n (listed_on root (listed_functions functions)) more after) (ap (λ n. min n 12) deep)
      (subst (λ l. AreTreeRows (listed_functions functions) (root ∷ before) (min rest.depth 12) l more after) (ap listed_functions on.all ∙ on_listed functions root) are)

  fills_none : (rest : Rest) (rests : List Rest) (drawn : List ℕ) (rows : List TreePlace) → left_of functions rest ≡ []
      → Fills functions before root (rest ∷ rests) drawn rows → Fills functions before root rests drawn rows
  fills_none rest rests drawn rows empty fills =
      subst (Fills functions before root rests drawn) (append-nil rows)
      (fills [] drawn
      (subst (λ l. AreTreeRows (listed_functions functions) drawn (min rest.depth 12) (listed_functions l) [] drawn) (sym empty) (no_row drawn (min rest.depth 12))))

  fills_next : (rest : Rest) (rests : List Rest) (drawn : List ℕ) (rows : List TreePlace) (function : Function) → IsNextFunction functions rest function
      → undrawn_behind drawn (listed_function function) ≡ None → Fills functions before root (rest ∷ rests) drawn rows
      → Fills functions before root (behind_first rest ∷ rests) drawn (rows ++ place_of function rest.depth ∷ [])
  fills_next rest rests drawn rows function next none fills more after are =
      let place = place_of function rest.depth in
      subst (Fills functions before root rests after) (sym (append_assoc rows (place ∷ []) more))
      (fills (place ∷ more) after
      (subst (λ l. AreTreeRows (listed_functions functions) drawn (min rest.depth 12) (listed_functions l) (place ∷ more) after) (sym next.splits)
      (one_row drawn after (min rest.depth 12) (listed_function function) (listed_functions (left_between functions (rest.next + 1) rest.end)) more none are)))

  fills_begun : (rest one : Rest) (rests : List Rest) (drawn : List ℕ) (rows : List TreePlace) (function : Function) (bus : ℕ) → IsNextFunction functions rest function
      → undrawn_behind drawn (listed_function function) ≡ Some bus → StandOnBus functions bus one.next one.end → one.depth ≡ min (rest.depth + 1) (2 ^ 64 - 1)
      → Fills functions before root (rest ∷ rests) drawn rows
      → Fills functions before root (one ∷ behind_first rest ∷ rests) (bus ∷ drawn) (rows ++ place_of function rest.depth ∷ [])
  fills_begun rest one rests drawn rows function bus next some on deep fills behind between below more after are =
      let place = place_of function rest.depth in
      let steps : min one.depth 12 ≡ steps_behind (min rest.depth 12) = omega (arith, deep) in
      let stands : AreTreeRows (listed_functions functions) (bus ∷ drawn) (steps_behind (min rest.depth 12)) (listed_on bus (listed_functions functions)) behind between =
      subst (λ n. AreTreeRows (listed_functions functions) (bus ∷ drawn) n (listed_on bus (listed_functions functions)) behind between) steps
      (subst (λ l. AreTreeRows (listed_functions functions) (bus ∷ drawn) (min one.depth 12) l behind between) (ap listed_functions on.all ∙ on_listed functions bus) below) in
      subst (Fills functions before root rests after)
      (sym (append_assoc (rows ++ place ∷ []) behind more ∙ append_assoc rows (place ∷ []) (behind ++ more)))
      (fills (place ∷ (behind ++ more)) after
      (subst (λ l. AreTreeRows (listed_functions functions) drawn (min rest.depth 12) (listed_functions l) (place ∷ (behind ++ more)) after) (sym next.splits)
      (rows_behind drawn between after (min rest.depth 12) bus (listed_function function) (listed_functions (left_between functions (rest.next + 1) rest.end)) behind more some stands are)))

-- ---- rows that were drawn below a root, and what is left

pub record IsUnderWay (functions : List Function) (badges : List Badge) (before : List ℕ) (root top : ℕ) (stack : List Rest) (marks : List Bool) (y : ℕ)
    (old now : List ℕ) : Type 0 where
  pub rows : List TreePlace
  pub drawn : List ℕ
  pub text : List ℕ
  pub marked : AreMarked marks drawn
  pub fills : Fills functions before root stack drawn rows
  pub written : AreWritten badges top rows text y
  pub says : now ≡ old ++ text

module _ (functions : List Function) (badges : List Badge) (before : List ℕ) (root top : ℕ) (marks : List Bool) (long : length marks ≡ 256) (y : ℕ) (old now : List ℕ) where
  pub way_begins : (rest : Rest) (was : List Bool) → AreMarked was before → length was ≡ 256 → root < 256 → marks ≡ set was root true → y ≡ top → now ≡ old
      → StandOnBus functions root rest.next rest.end → rest.depth ≡ 0
      → IsUnderWay functions badges before root top (reverse ([] ++ rest ∷ [])) marks y old now
  way_begins rest was marked size small is at same on deep = record {
    rows = [];
    drawn = root ∷ before;
    text = [];
    marked = subst (λ m. AreMarked m (root ∷ before)) (sym is) (marked_too was before root size small marked);
    fills = fills_begin functions before root rest on deep;
    written = subst (AreWritten badges top [] []) (sym at) (none_written top);
    says = same ∙ sym (append-nil old);
  }

  pub way_skips : (rest : Rest) (rests : List Rest) → left_of functions rest ≡ []
      → IsUnderWay functions badges before root top (reverse (rests ++ rest ∷ [])) marks y old now
      → IsUnderWay functions badges before root top (reverse rests) marks y old now
  way_skips rest rests empty way = record {
    rows = way.rows;
    drawn = way.drawn;
    text = way.text;
    marked = way.marked;
    fills = fills_none functions before root rest (reverse rests) way.drawn way.rows empty
        (subst (λ s. Fills functions before root s way.drawn way.rows) (reverse-append rests (rest ∷ [])) way.fills);
    written = way.written;
    says = way.says;
  }

  module _ (rest : Rest) (rests after : List Rest) (function : Function) (row : TreeRow) (marked_now : List Bool) (words : List ℕ)
      (next : IsNextFunction functions rest function) (stands : IsRowAt badges y (place_of function rest.depth) row) (adds : words ≡ now ++ tree_row_text row)
      (same : unmarked_behind marks function ≡ None → (after ≡ rests ++ behind_first rest ∷ []) × (marked_now ≡ marks))
      (begun : (bus : ℕ) → unmarked_behind marks function ≡ Some bus → IsBusBegun functions bus rest.depth (rests ++ behind_first rest ∷ []) after marks marked_now) where
    way_on : (bus : Option ℕ) → unmarked_behind marks function ≡ bus
        → IsUnderWay functions badges before root top (reverse (rests ++ rest ∷ [])) marks y old now
        → IsUnderWay functions badges before root top (reverse after) marked_now (down y 14) old words
    way_on None none way = record {
      rows = way.rows ++ place_of function rest.depth ∷ [];
      drawn = way.drawn;
      text = way.text ++ tree_row_text row;
      marked = subst (λ m. AreMarked m way.drawn) (sym (same none).1) way.marked;
      fills = subst (λ s. Fills functions before root s way.drawn (way.rows ++ place_of function rest.depth ∷ []))
          (sym (ap reverse (same none).0 ∙ reverse-append rests (behind_first rest ∷ [])))
          (fills_next functions before root rest (reverse rests) way.drawn way.rows function next
          (none_behind marks way.drawn long way.marked (secondary_of function.buses) none)
          (subst (λ s. Fills functions before root s way.drawn way.rows) (reverse-append rests (rest ∷ [])) way.fills));
      written = written_more badges top y way.rows way.text (place_of function rest.depth) row way.written stands;
      says = adds ∙ ap (λ l. l ++ tree_row_text row) way.says ∙ append_assoc old way.text (tree_row_text row);
    }
    way_on (Some bus) some way =
        let is = begun bus some in
        record {
          rows = way.rows ++ place_of function rest.depth ∷ [];
          drawn = bus ∷ way.drawn;
          text = way.text ++ tree_row_text row;
          marked = subst (λ m. AreMarked m (bus ∷ way.drawn)) (sym is.marked) (marked_too marks way.drawn bus long is.low way.marked);
          fills = subst (λ s. Fills functions before root s (bus ∷ way.drawn) (way.rows ++ place_of function rest.depth ∷ []))
              (sym (ap reverse is.put ∙ reverse-append (rests ++ behind_first rest ∷ []) (is.rest ∷ [])
              ∙ ap (λ l. is.rest ∷ l) (reverse-append rests (behind_first rest ∷ []))))
              (fills_begun functions before root rest is.rest (reverse rests) way.drawn way.rows function bus next
              (some_behind marks way.drawn long way.marked (secondary_of function.buses) bus some is.low is.unmarked) is.on is.deep
              (subst (λ s. Fills functions before root s way.drawn way.rows) (reverse-append rests (rest ∷ [])) way.fills));
          written = written_more badges top y way.rows way.text (place_of function rest.depth) row way.written stands;
          says = adds ∙ ap (λ l. l ++ tree_row_text row) way.says ∙ append_assoc old way.text (tree_row_text row);
        }

    pub way_goes_on : IsUnderWay functions badges before root top (reverse (rests ++ rest ∷ [])) marks y old now
        → IsUnderWay functions badges before root top (reverse after) marked_now (down y 14) old words
    way_goes_on way = way_on (unmarked_behind marks function) refl way

-- ---- how much is left

abbrev pub weight : Rest → ℕ
weight rest = rest.end - rest.next + 1

abbrev pub unmarked_on : List Function → List Bool → ℕ
unmarked_on functions marks = length (filter (λ (function : Function). not (get_or marks (bus_of_slot function.number) false)) functions)

-- the functions that are left, those on buses without a mark, and a step for each bus
abbrev pub work_left : List Function → List Rest → List Bool → ℕ
work_left functions rests marks = sum_by weight rests + unmarked_on functions marks + length (filter not marks)

one_mark_more : (marks : List Bool) (bus : ℕ) → bus < length marks → get_or marks bus false ≡ false → length (filter not (set marks bus true)) + 1 ≡ length (filter not marks)
one_mark_more [] bus inside off = absurd (omega (arith, inside))
one_mark_more (false ∷ marks) zero inside off = omega arith
one_mark_more (true ∷ marks) zero inside off = absurd cc
one_mark_more (false ∷ marks) (suc bus) inside off = let more = one_mark_more marks bus (omega (arith, inside)) off in omega (arith, more)
one_mark_more (true ∷ marks) (suc bus) inside off = one_mark_more marks bus (omega (arith, inside)) off

bus_marked : (functions : List Function) (marks : List Bool) (bus : ℕ) → bus < length marks → get_or marks bus false ≡ false
    → unmarked_on functions (set marks bus true) + length (functions_on bus functions) ≡ unmarked_on functions marks
bus_marked [] marks bus inside off = refl
bus_marked (function ∷ functions) marks bus inside off =
    let more = bus_marked functions marks bus inside off in
    elim (cases_eq (bus_of_slot function.number) bus) [
      | inl same ↦
          rw (eq-eqb (bus_of_slot function.number) bus same, ap (λ n. get_or (set marks bus true) n false) same ∙ get_or-set_same marks bus true false inside, ap (λ n. get_or marks n false) same ∙ off)
          (omega (arith, more))
      | inr apart ↦
          rw (ne_eqb (bus_of_slot function.number) bus apart, get_or-set_other marks bus (bus_of_slot function.number) true false apart)
          (elim (get_or marks (bus_of_slot function.number) false) as (λ b.
          length (cond (not b) (function ∷ filter (λ (f : Function). not (get_or (set marks bus true) (bus_of_slot f.number) false)) functions) (filter (λ (f : Function). not (get_or (set marks bus true) (bus_of_slot f.number) false)) functions))
          + length (functions_on bus functions)
          ≡ length (cond (not b) (function ∷ filter (λ (f : Function). not (get_or marks (bus_of_slot f.number) false)) functions) (filter (λ (f : Function). not (get_or marks (bus_of_slot f.number) false)) functions))) [
            | true ↦ more
            | false ↦ omega (arith, more)
          ])
    ]

module _ (functions : List Function) (marks : List Bool) (rests : List Rest) (rest : Rest) where
  less_next : rest.next < rest.end → work_left functions (rests ++ behind_first rest ∷ []) marks < work_left functions (rests ++ rest ∷ []) marks
  less_next some =
      let sum = sum_by-append weight rests (rest ∷ []) in
      let less = sum_by-append weight rests (behind_first rest ∷ []) in
      omega (arith, sum, less, some)

  less_begun : (bus : ℕ) (after : List Rest) (now : List Bool) → rest.next < rest.end → length marks ≡ 256
      → IsBusBegun functions bus rest.depth (rests ++ behind_first rest ∷ []) after marks now
      → work_left functions after now < work_left functions (rests ++ rest ∷ []) marks
  less_begun bus after now some long begun =
      let one = begun.rest in
      let inside : bus < length marks = (let low = begun.low in omega (arith, low, long)) in
      let sum = sum_by-append weight rests (rest ∷ []) in
      let less = sum_by-append weight rests (behind_first rest ∷ []) in
      let put : sum_by weight after ≡ sum_by weight (rests ++ behind_first rest ∷ []) + sum_by weight (one ∷ []) =
      ap (sum_by weight) begun.put ∙ sum_by-append weight (rests ++ behind_first rest ∷ []) (one ∷ []) in
      let there = ap length begun.on.all in
      let part = length-take (one.end - one.next) (drop one.next functions) in
      let behind = length-drop one.next functions in
      let within = begun.on.inside in
      let many : length (functions_on bus functions) ≡ one.end - one.next = omega (arith, there, part, behind, within) in
      let fewer : unmarked_on functions now + length (functions_on bus functions) ≡ unmarked_on functions marks =
      ap (λ m. unmarked_on functions m + length (functions_on bus functions)) begun.marked ∙ bus_marked functions marks bus inside begun.unmarked in
      let mark : length (filter not now) + 1 ≡ length (filter not marks) = ap (λ m. length (filter not m) + 1) begun.marked ∙ one_mark_more marks bus inside begun.unmarked in
      omega (arith, sum, less, put, many, fewer, mark, some)

  pub less_on : (function : Function) (after : List Rest) (now : List Bool) → rest.next < rest.end → length marks ≡ 256
      → (unmarked_behind marks function ≡ None → (after ≡ rests ++ behind_first rest ∷ []) × (now ≡ marks))
      → ((bus : ℕ) → unmarked_behind marks function ≡ Some bus → IsBusBegun functions bus rest.depth (rests ++ behind_first rest ∷ []) after marks now)
      → (bus : Option ℕ) → unmarked_behind marks function ≡ bus → work_left functions after now < work_left functions (rests ++ rest ∷ []) marks
  less_on function after now some long same begun None none =
      subst (λ m. work_left functions after m < work_left functions (rests ++ rest ∷ []) marks) (sym (same none).1)
      (subst (λ l. work_left functions l marks < work_left functions (rests ++ rest ∷ []) marks) (sym (same none).0) (less_next some))
  less_on function after now some long same begun (Some bus) is = less_begun bus after now some long (begun bus is)

pub none_left : {X : Type 0} (items : List X) → length items ≡ 0 → items ≡ []
none_left [] none = refl
none_left (item ∷ items) none = absurd (omega (arith, none))

-- the first function that is left, as it is found
pub next_found : (functions all : List Function) (rest : Rest) (result : Option (Bor Function)) → rest.next < rest.end → all ≡ functions → IsItemAt all rest.next result
    → IfSome result (λ function. IsNextFunction functions rest function.now)
next_found functions all rest None some same at = tt
next_found functions all rest (Some function) some same at =
    next_there functions rest function.now some (subst (λ l. rest.next < length l) same (ltb-true rest.next (length all) (sym at.0))) (at.1 ∙ ap (λ l. get_or l rest.next function.now) same)
