-- The first range of a list that a root has and that passes a test, one range after another.
use Rattle.std.proofs.Common.{◌≡◌, ℕ, zero, suc, arith, ◌+◌, ◌<◌, ◌≤◌, List, [], ◌∷◌, ◌++◌, map, length, drop, get_or, cond, ap, sym, ◌∙◌, refl, true, false, Bool, ◌&&◌, Option, None, Some}
use Rattle.std.specs.List.{filter, find}
use Rattle.std.proofs.lemmas.List.{at_drop_more}
use Rattle.pci_spec.specs.Decoded.{Range as DecodedRange}
use Rattle.pci_spec.specs.Window.{MemoryWindow, PrefetchWindow}
use Rattle.settle_spec.specs.Lists.{RootRange, Request, is_had_by}
use Rattle.settle_spec.specs.Lists as asked
use Rattle.settle_spec.specs.Parts.{lies_within}
use Rattle.settle_spec.specs.Reach.{root_window_ranges}
use Rattle.pci_base.specs.declared.range.RootRange.{RootRange as CodeRange}
use Rattle.pci_base.specs.Ranges.{decoded_range_of}
use Rattle.pci_first_fit.specs.declared.list.Lists.{Lists}
use Rattle.pci_first_fit.specs.Lists.{root_range_value, lists_value, root_range_holds}
use Rattle.pci_grow.specs.Rooms.{had_ranges, else_range, find_in_either}

-- what an index past the end is read as
abbrev pub no_range : CodeRange
no_range = record { root = None; range = record { first = 0; last = 0 } }

one_more : (b : Bool) (test : DecodedRange → Bool) (r : RootRange) (more : List RootRange)
    → find test (map (λ (x : RootRange). x.range) (cond b (r ∷ more) more)) ≡ cond (b && test r.range) (Some r.range) (find test (map (λ (x : RootRange). x.range) more))
one_more true test r more = refl
one_more false test r more = refl

module _ (bus : ℕ) (inner : DecodedRange) (list : List CodeRange) (n : ℕ) (within : n < length list) (d : CodeRange) where
  abbrev here : CodeRange
  here = get_or list n d

  next : find (lies_within inner) (had_ranges bus (drop n list)) ≡ cond (root_range_holds bus inner (root_range_value here)) (Some (decoded_range_of here.range)) (find (lies_within inner) (had_ranges bus (drop (n + 1) list)))
  next =
      at_drop_more (λ xs. find (lies_within inner) (had_ranges bus xs)) list n d within
      ∙ one_more (is_had_by here.root bus) (lies_within inner) (root_range_value here) (filter (λ (r : RootRange). is_had_by r.root bus) (map root_range_value (drop (n + 1) list)))

  -- it is this one where it holds the other range
  pub found_here : root_range_holds bus inner (root_range_value here) ≡ true → find (lies_within inner) (had_ranges bus (drop n list)) ≡ Some (decoded_range_of here.range)
  found_here holds = next ∙ ap (λ b. cond b (Some (decoded_range_of here.range)) (find (lies_within inner) (had_ranges bus (drop (n + 1) list)))) holds

  -- and else one that follows
  pub found_later : root_range_holds bus inner (root_range_value here) ≡ false → find (lies_within inner) (had_ranges bus (drop n list)) ≡ find (lies_within inner) (had_ranges bus (drop (n + 1) list))
  found_later not = next ∙ ap (λ b. cond b (Some (decoded_range_of here.range)) (find (lies_within inner) (had_ranges bus (drop (n + 1) list)))) not

drop_past : (n : ℕ) (list : List CodeRange) → length list ≤ n → drop n list ≡ []
drop_past zero [] past = refl
drop_past (suc n) [] past = refl
drop_past zero (x ∷ list) past = absurd (let no : ⊥ = omega (arith, past) in no)
drop_past (suc n) (x ∷ list) past = drop_past n list (omega (arith, past))

pub found_none : (bus : ℕ) (inner : DecodedRange) (list : List CodeRange) (n : ℕ) → length list ≤ n → find (lies_within inner) (had_ranges bus (drop n list)) ≡ None
found_none bus inner list n past = ap (λ xs. find (lies_within inner) (had_ranges bus xs)) (drop_past n list past)

-- ---- of two lists

else_cond : (b : Bool) (o : Option DecodedRange) (x : DecodedRange) (other : Option DecodedRange) → cond b (Some x) (else_range o other) ≡ else_range (cond b (Some x) o) other
else_cond true o x other = refl
else_cond false o x other = refl

pub find_both : (test : DecodedRange → Bool) (xs ys : List DecodedRange) → find test (xs ++ ys) ≡ find_in_either test xs ys
find_both test [] ys = refl
find_both test (x ∷ xs) ys = ap (cond (test x) (Some x)) (find_both test xs ys) ∙ else_cond (test x) (find test xs) x (find test ys)

module _ (q : Request) (lists : Lists) (bus : ℕ) (inner : DecodedRange) (is : q.lists ≡ lists_value lists) where
  abbrev had : List RootRange → List DecodedRange
  had list = map (λ (r : RootRange). r.range) (filter (λ (r : RootRange). is_had_by r.root bus) list)

  pub memory_room : find_in_either (lies_within inner) (had_ranges bus lists.mem.now) (had_ranges bus lists.pref.now) ≡ find (lies_within inner) (root_window_ranges q MemoryWindow bus)
  memory_room =
      sym (find_both (lies_within inner) (had_ranges bus lists.mem.now) (had_ranges bus lists.pref.now))
      ∙ ap (λ (ls : asked.Lists). find (lies_within inner) (had ls.memory ++ had ls.prefetch)) (sym is)

  pub prefetch_room : find_in_either (lies_within inner) (had_ranges bus lists.pref.now) (had_ranges bus lists.mem.now) ≡ find (lies_within inner) (root_window_ranges q PrefetchWindow bus)
  prefetch_room =
      sym (find_both (lies_within inner) (had_ranges bus lists.pref.now) (had_ranges bus lists.mem.now))
      ∙ ap (λ (ls : asked.Lists). find (lies_within inner) (had ls.prefetch ++ had ls.memory)) (sym is)
