use Rattle.std.proofs.Common.{◌≡◌, ◌==◌, ℕ, List, ◌∷◌, [], ◌∙◌, Bool, true, codes, sym, ap, if◌then◌else◌, ◌+◌}
use Rattle.std.proofs.lemmas.Bool.{eq-eqb}
use Rattle.json.specs.Json.{Json}
use Rattle.pci_json.specs.Lines.{lines_of_text, content_of, depth_of}
use Rattle.pci_json.specs.Members.{with_members, with_items, object_of, array_of}
use Rattle.pci_json.proofs.Tokens.{array_value, named_value, object_value, two_members}
use Rattle.pci_json.specs.Listings.{outer_members, inside_members, place_members}
use Rattle.pci_json.proofs.Steps.{no_parts, items_done}
use Rattle.pci_json.specs.Documents.{place_objects}
use Rattle.pci_json.proofs.map.+places.Goals as goal

pub push_inside-returns-clause-written : goal.push_inside-returns-clause-written
push_inside-returns-clause-written g t c =
    named_value c.args.out.now c.key.new.self c.end_array.new.self (codes "inside") (array_of (place_objects (c.args.depth + 1) (lines_of_text c.args.text.now))) c.in_ok-key.ensures (array_value c.key.new.self c.begin_array.new.self c.push_places.new.out c.end_array.new.self (place_objects (c.args.depth + 1) (lines_of_text c.args.text.now)) c.in_ok-begin_array.ensures c.in_ok-rest.ensures.written c.in_ok-end_array.ensures)
    ∙ ap (with_members c.args.out.now) (ap (λ (b : Bool). if b then (codes "inside", array_of (place_objects (c.args.depth + 1) (lines_of_text c.args.text.now))) ∷ [] else []) (sym (sym c.has_inside.ensures ∙ c.if-not-has_inside.false)))

pub push_places-returns-clause-written : goal.push_places-returns-clause-written
push_places-returns-clause-written g t c =
    items_done c.loop-line.out (with_items c.args.out.now (place_objects c.args.depth (lines_of_text c.args.text.now))) (place_objects c.args.depth (lines_of_text c.loop-line.rest.now))
    (ap (place_objects c.args.depth) (no_parts 10 c.loop-line.rest.now c.is_empty.result c.is_empty.ensures c.loop-line-test.false)) c.loop-line.invariant.written

pub push_here-returns-clause-written : goal.push_here-returns-clause-written
push_here-returns-clause-written g t c =
    let inside : List Json = place_objects (c.args.depth + 1) (lines_of_text c.args.text.now) in
    let line : List ℕ = content_of c.args.line.now in
    let deep : (depth_of c.args.line.now == c.args.depth) ≡ true = eq-eqb (depth_of c.args.line.now) c.args.depth (sym c.depth_of.ensures.value ∙ c.if-depth_of-depth.false) in
    object_value c.args.out.now c.begin_object.new.self c.push_inside.new.out c.end_object.new.self (place_members line inside) c.in_ok-begin_object.ensures
    (two_members c.begin_object.new.self c.push_place.new.out c.push_inside.new.out (outer_members line) (inside_members line inside)
    (c.in_ok-push_place.ensures ∙ ap (λ l. with_members c.begin_object.new.self (outer_members l)) c.content-line.ensures)
    (c.in_ok-rest.ensures.written ∙ ap (λ l. with_members c.push_place.new.out (inside_members l inside)) c.content-line.ensures))
    c.in_ok-end_object.ensures
    ∙ ap (with_items c.args.out.now) (ap (λ (b : Bool). if b then object_of (place_members line inside) ∷ [] else []) (sym deep))
