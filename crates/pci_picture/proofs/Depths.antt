-- How deep the lines of a map stand, while it is read.
use Rattle.std.proofs.Common.{arith, ◌≡◌, ◌<◌, ◌≤◌, ◌+◌, ◌-◌, ◌/◌, ℕ, Bool, true, false, if◌then◌else◌, max, min, Some, None, List, [], ◌∷◌, ◌++◌, length, sym, ap, subst, ◌∙◌, inl, inr}
use Rattle.std.specs.List.{slice_index_or}
use Rattle.std.proofs.lemmas.Bool.{cases_lt}
use Rattle.std.proofs.lemmas.List.{get_or_append_left, get_or_push, length_push}
use Rattle.pci_picture.specs.Depths.{AreChained, FollowsLine, IsChained, IsLastLine, KnowsDepths, StandsWithin, reading_of}
use Rattle.pci_picture.specs.Headings.{depth_behind, reading_at}
use Rattle.pci_picture.specs.declared.map.Heading.{Heading}
use Rattle.pci_picture.specs.declared.map.Heading.TheVariants.{Section, Lost, Off}
use Rattle.pci_picture.specs.declared.map.Line.{Line}
use Rattle.pci_picture.specs.declared.map.Reader.{Reader}
use Rattle.pci_picture.specs.declared.region.Region.{Region}

-- ---- one line more

-- a line at an index stays so where lines follow
still_chained : (lines more : List Line) (k : ℕ) (line : Line) → k ≤ length lines → IsChained lines k line → IsChained (lines ++ more) k line
still_chained lines more k line inside is = record {
  deep = is.deep;
  lost = is.lost;
  behind = λ deep.
      let before = is.behind deep in
      (before.0, before.1, λ d. subst (λ l. FollowsLine l line) (sym (get_or_append_left lines more d before.0 (omega (arith, before.1)))) (before.2 d));
}

chained_more : (lines : List Line) (line : Line) → AreChained lines → IsChained lines (length lines) line → AreChained (lines ++ line ∷ [])
chained_more lines line chained last k d inside = elim (cases_lt k (length lines)) [
  | inl before ↦
      subst (IsChained (lines ++ line ∷ []) k) (sym (get_or_append_left lines (line ∷ []) d k before))
      (still_chained lines (line ∷ []) k (slice_index_or lines k d) (omega arith) (chained k d before))
  | inr behind ↦
      let size = length_push lines line in
      let here : length lines ≡ k = omega arith in
      subst (IsChained (lines ++ line ∷ []) k) (sym (get_or_push lines line d k here))
      (still_chained lines (line ∷ []) k line (omega arith) (subst (λ n. IsChained lines n line) here last))
]

pub none_chained : {A : Type 0} (reader : Reader A) → reader.map.lines.items ≡ [] → reader.level ≡ 0 → KnowsDepths reader
none_chained reader none flat = record {
  chained = subst AreChained (sym none) (λ k d inside. absurd (let no : ⊥ = omega (arith, inside) in no));
  last = λ some. absurd (let no : ⊥ = omega (arith, some, flat) in no);
}

-- ---- a line of a section

not_none : (number : ℕ) → Some number ≡ None → ⊥
not_none number is = cc

not_lost : (number : ℕ) → Lost ≡ Section number → ⊥
not_lost number is = cc

not_off : (number : ℕ) → Off ≡ Section number → ⊥
not_off number is = cc

number_same : (one other : ℕ) → Section one ≡ Section other → one ≡ other
number_same one other is = cc

follows_last : {A : Type 0} (reader : Reader A) (region : Region) (number level : ℕ) (line : Line) → line ≡ record { section = Some number; top = reader.top; region = region }
    → IsLastLine reader.map.lines.items number reader.top level → region.depth ≤ level + 1
    → (p : ℕ) × (p + 1 ≡ length reader.map.lines.items) × ((d : Line) → FollowsLine (slice_index_or reader.map.lines.items p d) line)
follows_last reader region number level line is last step =
    let some = last.some in (
      length reader.map.lines.items - 1,
      omega arith,
      λ d. record {
        section = last.section d ∙ sym (ap (λ (l : Line). l.section) is);
        top = last.top_is d ∙ sym (ap (λ (l : Line). l.top) is);
        step =
            let deep : line.region.depth ≡ region.depth = ap (λ (l : Line). l.region.depth) is in
            omega (arith, last.level_is d, step, deep);
      },
    )

pub put_in_section : {A : Type 0} (old new : Reader A) (region : Region) (number : ℕ) (line : Line) → line ≡ record { section = Some number; top = old.top; region = region }
    → old.heading ≡ Section number → new.map.lines.items ≡ old.map.lines.items ++ line ∷ []
    → new.heading ≡ old.heading → new.level ≡ old.level → new.top ≡ old.top
    → AreChained old.map.lines.items → StandsWithin old region → KnowsDepths new
put_in_section old new region number line is under items heading level top chained within =
    let lines : List Line = old.map.lines.items in
    let depth : line.region.depth ≡ region.depth = ap (λ (l : Line). l.region.depth) is in
    let own : line.section ≡ Some number = ap (λ (l : Line). l.section) is in
    let deep = within.deep in
    let size : length new.map.lines.items ≡ length lines + 1 = ap (λ l. length l) items ∙ length_push lines line in
    let at_end : (d : Line) → slice_index_or new.map.lines.items (length new.map.lines.items - 1) d ≡ line = λ d.
    ap (λ l. slice_index_or l (length new.map.lines.items - 1) d) items ∙ get_or_push lines line d (length new.map.lines.items - 1) (omega (arith, size)) in
    record {
      chained = subst AreChained (sym items) (chained_more lines line chained (record {
        deep = omega (arith, deep, depth);
        lost = λ none. absurd (not_none number (sym own ∙ none));
        behind = λ more.
            let last = within.behind (omega (arith, more, depth)) number under in
            follows_last old region number last.0 line is last.1 last.2;
      }));
      last = λ some other is_other.
          let same : number ≡ other = number_same number other (sym under ∙ sym heading ∙ is_other) in
          record {
            some = omega (arith, size);
            section = λ d. ap (λ (l : Line). l.section) (at_end d) ∙ own ∙ ap (λ (n : ℕ). Some n) same;
            top_is = λ d. ap (λ (l : Line). l.top) (at_end d) ∙ ap (λ (l : Line). l.top) is ∙ sym top;
            level_is = λ d. ap (λ (l : Line). l.region.depth) (at_end d) ∙ depth ∙ sym within.level ∙ sym level;
          };
    }

pub put_lost : {A : Type 0} (old new : Reader A) (region : Region) (line : Line) → line ≡ record { section = None; top = old.top; region = region }
    → old.heading ≡ Lost → new.map.lines.items ≡ old.map.lines.items ++ line ∷ [] → new.heading ≡ old.heading
    → AreChained old.map.lines.items → StandsWithin old region → KnowsDepths new
put_lost old new region line is under items heading chained within =
    let lines : List Line = old.map.lines.items in
    let depth : line.region.depth ≡ region.depth = ap (λ (l : Line). l.region.depth) is in
    let deep = within.deep in
    let flat = within.lost under in
    record {
      chained = subst AreChained (sym items) (chained_more lines line chained (record {
        deep = omega (arith, deep, depth);
        lost = λ none. omega (arith, flat, depth);
        behind = λ more. absurd (let no : ⊥ = omega (arith, more, flat, depth) in no);
      }));
      last = λ some number in_section. absurd (not_lost number (sym under ∙ sym heading ∙ in_section));
    }

pub put_off : {A : Type 0} (old new : Reader A) → old.heading ≡ Off → new.map.lines.items ≡ old.map.lines.items → new.heading ≡ old.heading
    → AreChained old.map.lines.items → KnowsDepths new
put_off old new under items heading chained = record {
  chained = subst AreChained (sym items) chained;
  last = λ some number in_section. absurd (not_off number (sym under ∙ sym heading ∙ in_section));
}

-- ---- one line of the text more

-- a line that is no region
pub read_past : {A : Type 0} (old new : Reader A) → new.map.lines.items ≡ old.map.lines.items → new.level ≡ 0 → KnowsDepths old → KnowsDepths new
read_past old new items flat read = record {
  chained = subst AreChained (sym items) read.chained;
  last = λ some. absurd (let no : ⊥ = omega (arith, some, flat) in no);
}

deep_by : (taken : Bool) (steps level : ℕ) → 0 < steps → 0 < min (if taken then max (steps - 1) 1 else steps) (level + 1)
deep_by true steps level some = omega arith
deep_by false steps level some = omega (arith, some)

deep_behind : (heading : Heading) (taken : Bool) (steps level top : ℕ) → 0 < steps → 0 < depth_behind (reading_at heading taken level top) steps
unfolding depth_behind
deep_behind (Section n) taken steps level top some = deep_by taken steps level some
deep_behind Lost taken steps level top some = omega arith
deep_behind Off taken steps level top some = omega arith

at_most : (one other : ℕ) → min one other ≤ other
at_most one other = omega arith

one_step : (heading : Heading) (taken : Bool) (steps level top : ℕ) → depth_behind (reading_at heading taken level top) steps ≤ level + 1
unfolding depth_behind
one_step (Section n) taken steps level top = at_most _ (level + 1)
one_step Lost taken steps level top = omega arith
one_step Off taken steps level top = omega arith

flat_if_lost : (heading : Heading) (taken : Bool) (steps level top : ℕ) → heading ≡ Lost → depth_behind (reading_at heading taken level top) steps ≤ 1
unfolding depth_behind
flat_if_lost (Section n) taken steps level top is = absurd (not_lost n (sym is))
flat_if_lost Lost taken steps level top is = omega arith
flat_if_lost Off taken steps level top is = omega arith

-- a region that stands below what was read
pub stands_within : {A : Type 0} (old new : Reader A) (region : Region) (blanks : ℕ) → 2 ≤ blanks → region.depth ≡ depth_behind (reading_of old) (blanks / 2)
    → new.map.lines.items ≡ old.map.lines.items → new.heading ≡ old.heading → new.level ≡ region.depth → (1 < region.depth → new.top ≡ old.top)
    → KnowsDepths old → StandsWithin new region
stands_within old new region blanks wide is items heading level top read =
    let steps : ℕ = blanks / 2 in
    let some : 0 < steps = omega (arith, wide) in
    let deep = deep_behind old.heading old.is_taken steps old.level old.top some in
    let step = one_step old.heading old.is_taken steps old.level old.top in
    record {
      deep = omega (arith, deep, is);
      level = level;
      lost = λ lost. let flat = flat_if_lost old.heading old.is_taken steps old.level old.top (sym heading ∙ lost) in omega (arith, flat, is);
      behind = λ more number in_section.
          let last = read.last (let up : 0 < old.level = omega (arith, more, step, is) in up) number (sym heading ∙ in_section) in (
            old.level,
            subst (λ t. IsLastLine new.map.lines.items number t old.level) (sym (top more))
                (subst (λ l. IsLastLine l number old.top old.level) (sym items) last),
            (let low : region.depth ≤ old.level + 1 = omega (arith, step, is) in low),
          );
    }
