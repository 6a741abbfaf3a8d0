-- Lines of a place one after another.
use Rattle.std.proofs.Common.{◌≡◌, ℕ, suc, List, [], ◌∷◌, ◌++◌, map, take, drop, refl, sym, ap, ◌∙◌, subst, append-nil}
use Rattle.std.specs.List.{flat_map}
use Rattle.std.proofs.lemmas.List.{append_assoc}
use Rattle.pci_spec.specs.System.{System, Space}
use Rattle.pci_spec.specs.Decoded as decoded
use Rattle.judge_spec.specs.Given.{Given}
use Rattle.judge_spec.specs.ToldClaims.{Told}
use Rattle.judge_spec.specs.Regions.{MapRegion}
use Rattle.judge_spec.specs.Lines.{Lines, End, Free, Sits, AreAllInside}
use Rattle.judge_spec.specs.MapText.{free_line, map_region_line, lines_text}
use Rattle.pci_base.specs.declared.range.Range.{Range}
use Rattle.pci_base.specs.Ranges.{decoded_range_of}
use Rattle.pci_map.specs.declared.seat.Seat.{Seat}
use Rattle.pci_map.specs.Values.{Mapped}
use Rattle.pci_map.specs.Seats.{seat_value, seat_first}
use Rattle.pci_map.specs.Walk.{ahead, Entry, Run, At, entries, run_entries, merged, ArePlacesWritten, IsSeated}

abbrev joined : Lines → Lines → Lines
joined End more = more
joined (Free r rest) more = Free r (joined rest more)
joined (Sits q inside rest) more = Sits q inside (joined rest more)

abbrev free_lines : List decoded.Range → Lines
free_lines [] = End
free_lines (r ∷ rs) = Free r (free_lines rs)

entries_joined : (ls more : Lines) → entries (joined ls more) ≡ entries ls ++ entries more
entries_joined End more = refl
entries_joined (Free r rest) more = ap (λ es. Run r ∷ es) (entries_joined rest more)
entries_joined (Sits q inside rest) more = ap (λ es. At q ∷ es) (entries_joined rest more)

entries_free : (rs : List decoded.Range) → entries (free_lines rs) ≡ map Run rs
entries_free [] = refl
entries_free (r ∷ rs) = ap (λ es. Run r ∷ es) (entries_free rs)

inside_joined : (told : Told) (given : Given) (roots : List ℕ) (s : System) (space : Space) (ls more : Lines) → AreAllInside told given roots s space ls → AreAllInside told given roots s space more → AreAllInside told given roots s space (joined ls more)
inside_joined told given roots s space End more first second = second
inside_joined told given roots s space (Free r rest) more first second = inside_joined told given roots s space rest more first second
inside_joined told given roots s space (Sits q inside rest) more first second = (first.0, first.1, inside_joined told given roots s space rest more first.2 second)

inside_free : (told : Told) (given : Given) (roots : List ℕ) (s : System) (space : Space) (rs : List decoded.Range) → AreAllInside told given roots s space (free_lines rs)
inside_free told given roots s space [] = tt
inside_free told given roots s space (r ∷ rs) = inside_free told given roots s space rs

text_joined : (given : Given) (depth : ℕ) (space : Space) (ls more : Lines) → lines_text given depth space (joined ls more) ≡ lines_text given depth space ls ++ lines_text given depth space more
unfolding lines_text
text_joined given depth space End more = refl
text_joined given depth space (Free r rest) more =
    ap (λ t. free_line depth space r ++ t) (text_joined given depth space rest more)
    ∙ sym (append_assoc (free_line depth space r) (lines_text given depth space rest) (lines_text given depth space more))
text_joined given depth space (Sits q inside rest) more =
    ap (λ t. map_region_line given depth q ++ (lines_text given (suc depth) space inside ++ t)) (text_joined given depth space rest more)
    ∙ ap (λ t. map_region_line given depth q ++ t) (sym (append_assoc (lines_text given (suc depth) space inside) (lines_text given depth space rest) (lines_text given depth space more)))
    ∙ sym (append_assoc (map_region_line given depth q) (lines_text given (suc depth) space inside ++ lines_text given depth space rest) (lines_text given depth space more))

text_free : (given : Given) (depth : ℕ) (space : Space) (rs : List decoded.Range) → lines_text given depth space (free_lines rs) ≡ flat_map (free_line depth space) rs
unfolding lines_text
text_free given depth space [] = refl
text_free given depth space (r ∷ rs) = ap (λ t. free_line depth space r ++ t) (text_free given depth space rs)

text_seat : (given : Given) (depth : ℕ) (space : Space) (q : MapRegion) (inside : Lines) → lines_text given depth space (Sits q inside End) ≡ map_region_line given depth q ++ lines_text given (suc depth) space inside
unfolding lines_text
text_seat given depth space q inside = ap (λ t. map_region_line given depth q ++ t) (append-nil (lines_text given (suc depth) space inside))

-- ---- some lines, and those that come

-- a text got some of the lines, and the others are to come
pub record IsPartly (m : Mapped) (depth : ℕ) (all coming : List Entry) (old new : List ℕ) : Type 0 where
  pub lines : Lines
  pub so : entries lines ++ coming ≡ all
  pub inside : AreAllInside m.told m.given m.roots m.system m.space lines
  pub text : new ≡ old ++ lines_text m.given depth m.space lines

module _ (told : Told) (given : Given) (roots : List ℕ) (s : System) (space : Space) (depth : ℕ) (all : List Entry) (old : List ℕ) where
  abbrev the_space : Mapped
  the_space = record { told = told; given = given; roots = roots; system = s; space = space }

  pub none_yet : IsPartly the_space depth all all old old
  unfolding lines_text
  none_yet = record { lines = End; so = refl; inside = tt; text = sym (append-nil old) }

  more_lines : (now new : List ℕ) (more : Lines) (coming : List Entry) → IsPartly the_space depth all (entries more ++ coming) old now → AreAllInside told given roots s space more
      → new ≡ now ++ lines_text given depth space more → IsPartly the_space depth all coming old new
  more_lines now new more coming is inside text = record {
    lines = joined is.lines more;
    so = ap (λ es. es ++ coming) (entries_joined is.lines more) ∙ append_assoc (entries is.lines) (entries more) coming ∙ is.so;
    inside = inside_joined told given roots s space is.lines more is.inside inside;
    text = text ∙ ap (λ t. t ++ lines_text given depth space more) is.text ∙ append_assoc old (lines_text given depth space is.lines) (lines_text given depth space more)
        ∙ ap (λ t. old ++ t) (sym (text_joined given depth space is.lines more));
  }

  more_runs : (now new : List ℕ) (rs : List Range) (coming : List Entry) → IsPartly the_space depth all (run_entries rs ++ coming) old now
      → new ≡ now ++ flat_map (free_line depth space) (map decoded_range_of rs) → IsPartly the_space depth all coming old new
  more_runs now new rs coming is text =
      more_lines now new (free_lines (map decoded_range_of rs)) coming
      (subst (λ es. IsPartly the_space depth all (es ++ coming) old now) (sym (entries_free (map decoded_range_of rs))) is)
      (inside_free told given roots s space (map decoded_range_of rs)) (text ∙ ap (λ t. now ++ t) (sym (text_free given depth space (map decoded_range_of rs))))

  one_seat : (now new : List ℕ) (q : Seat) (coming : List Entry) → IsPartly the_space depth all (At (seat_value space q) ∷ coming) old now → IsSeated the_space depth q now new
      → IsPartly the_space depth all coming old new
  one_seat now new q coming is seat =
      more_lines now new (Sits (seat_value space q) seat.inside End) coming is (seat.is, seat.deeper, tt)
      (seat.text ∙ ap (λ t. now ++ t) (sym (text_seat given depth space (seat_value space q) seat.inside)))

  -- one more region, with the runs before it
  pub next_seat : (now mid new : List ℕ) (q : Seat) (qs here : List Seat) (left before behind : List Range) (count : ℕ) → here ≡ q ∷ qs → count ≡ ahead (seat_first q) left
      → before ≡ take count left → behind ≡ drop count left
      → IsPartly the_space depth all (merged space here left) old now → mid ≡ now ++ flat_map (free_line depth space) (map decoded_range_of before)
      → IsSeated the_space depth q mid new → IsPartly the_space depth all (merged space qs behind) old new
  unfolding merged
  next_seat now mid new q qs here left before behind count is_here is_count is_before is_behind partly runs seat =
      let split : IsPartly the_space depth all (merged space (q ∷ qs) left) old now = subst (λ h. IsPartly the_space depth all (merged space h left) old now) is_here partly in
      let counted : IsPartly the_space depth all (run_entries (take count left) ++ (At (seat_value space q) ∷ merged space qs (drop count left))) old now =
      subst (λ n. IsPartly the_space depth all (run_entries (take n left) ++ (At (seat_value space q) ∷ merged space qs (drop n left))) old now) (sym is_count) split in
      let coming = At (seat_value space q) ∷ merged space qs (drop count left) in
      let past = more_runs now mid (take count left) coming counted (runs ∙ ap (λ rs. now ++ flat_map (free_line depth space) (map decoded_range_of rs)) is_before) in
      subst (λ rs. IsPartly the_space depth all (merged space qs rs) old new) (sym is_behind) (one_seat mid new q (merged space qs (drop count left)) past seat)

  -- the runs behind the last region
  pub last_runs : (now new : List ℕ) (none : List Seat) (left : List Range) → none ≡ [] → IsPartly the_space depth all (merged space none left) old now
      → new ≡ now ++ flat_map (free_line depth space) (map decoded_range_of left) → ArePlacesWritten the_space depth all old new
  unfolding merged
  last_runs now new none left is_none partly text =
      let split : IsPartly the_space depth all (run_entries left) old now = subst (λ h. IsPartly the_space depth all (merged space h left) old now) is_none partly in
      let whole = more_runs now new left [] (subst (λ es. IsPartly the_space depth all es old now) (sym (append-nil (run_entries left))) split) text in
      record { lines = whole.lines; entries = sym (append-nil (entries whole.lines)) ∙ whole.so; inside = whole.inside; text = whole.text }
