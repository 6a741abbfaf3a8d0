use Rattle.std.proofs.Common.{◌≡◌, ◌∙◌, inl, ap, subst, cond, List, ℕ, Bool}
use Rattle.std.specs.Prelude.{string_bytes}
use Rattle.pci_picture.specs.ByRoots.{IsDrawnByRootsOfShow}
use Rattle.pciplan_tasks.specs.Answers.{Answer, answer_of, text_bytes}
use Rattle.pciplan_front.specs.PictureAsked.{titles_text}
use Rattle.pciplan_front.proofs.drawn.drawn.Goals as goal

pub returns-in-Ok : goal.returns-in-Ok
returns-in-Ok c =
    let text = string_bytes c.in-Ok.picture in
    let show = text_bytes c.in_ok-shown.shown.text in
    let map = text_bytes c.in_ok-map.map.text in
    let faults = text_bytes c.in_ok-faults.faults.text in
    let titles : c.as_slice.result.now ≡ titles_text c.args.dump = c.as_slice.ensures.value ∙ c.in_ok-titles.ensures in
    let of_refused : Bool → Answer = λ b. record { status = cond b 1 0; text = text; remarks = string_bytes c.in_ok-map.map.remarks } in
    inl record {
      map = answer_of c.in_ok-map.map;
      is_map = c.in_ok-map.ensures;
      accepted = ap (λ b. cond b 1 0) c.if-map.false;
      shown = answer_of c.in_ok-shown.shown;
      is_shown = c.in_ok-shown.ensures;
      faults = answer_of c.in_ok-faults.faults;
      are_faults = c.in_ok-faults.ensures.told;
      text = text;
      picture = c.in-Ok.ensures.closed;
      draws =
          subst (λ (t : List ℕ). IsDrawnByRootsOfShow show t map faults text) titles
          (subst (λ (f : List ℕ). IsDrawnByRootsOfShow show c.as_slice.result.now map f text) c.in_ok-lines_of-3.ensures
          (subst (λ (m : List ℕ). IsDrawnByRootsOfShow show c.as_slice.result.now m c.in_ok-lines_of-3.field-0.now text) c.in_ok-lines_of-2.ensures
          (subst (λ (s : List ℕ). IsDrawnByRootsOfShow s c.as_slice.result.now c.in_ok-lines_of-2.field-0.now c.in_ok-lines_of-3.field-0.now text) c.in_ok-lines_of.ensures
          c.in-Ok.ensures.drawn)));
      line = ap of_refused c.if-map.false;
    }
