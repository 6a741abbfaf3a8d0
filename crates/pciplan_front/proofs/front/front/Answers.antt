use Rattle.std.proofs.Common.{◌≡◌, ◌⊎◌, ◌+◌, ℕ, map, subst, inl, inr}
use Rattle.std.specs.String.{string_bytes}
use Rattle.pciplan_cli.specs.CarriedOut.{texts}
use Rattle.pciplan_tasks.specs.Tasks.{HasFailed}
use Rattle.pciplan_front.specs.FirstWords.{AreOfTexts, IsCommandOfWords, behind_first_word}
use Rattle.pciplan_front.specs.HereTold.{IsHereCommand, files}
use Rattle.pciplan_front.specs.JsonAsked.{IsJson}
use Rattle.pciplan_front.specs.PictureAsked.{IsPicture}
use Rattle.pciplan_front.specs.TextAsked.{IsTextCommand}
use Rattle.pciplan_front.specs.Went.{went}
use Rattle.pciplan_front.proofs.FirstWords.{not_texts, of_explain, of_here, of_json, of_picture, of_version}
use Rattle.pciplan_front.proofs.front.front.Goals as goal

pub returns-in_default : goal.returns-in_default
returns-in_default g c =
    let items : c.as_slice.result.now ≡ c.in-Ok.words.items = cc (c.as_slice.ensures.value) in
    let again : c.as_slice-in_default.result.now ≡ c.in-Ok.words.items = cc (c.as_slice-in_default.ensures.value) in
    let is : IsCommandOfWords (map string_bytes c.in-Ok.words.items) c.first_of.result =
    subst (λ v. IsCommandOfWords (map string_bytes v) c.first_of.result) items c.first_of.ensures in
    let none : AreOfTexts (map string_bytes c.in-Ok.words.items) → ⊥ =
    not_texts (map string_bytes c.in-Ok.words.items) c.first_of.result is c.in_default.not-Texts in
    rw c.in-Ok.is record {
      memory = tt;
      unread = tt;
      done = λ small. λ of. absurd (none of);
      quiet = λ status. λ of. absurd (none of);
      begun = λ status. λ of. absurd (none of);
      refused = λ status. λ of. absurd (none of);
      failed = λ status. λ of. absurd (none of);
      text = λ begins. subst
          (λ v. IsTextCommand (map string_bytes v) c.beside.result
          (went (g.O.Sink.taken c.args.outside.now.out) (g.O.Sink.taken c.beside.new.outside.out) (c.beside.new.outside.out ≡ c.args.outside.now.out)
          (g.O.Sink.failures c.beside.new.outside.out ≡ g.O.Sink.failures c.args.outside.now.out + 1)))
          again
          (c.beside.ensures.text (elim begins [
            | inl explain ↦ inl (of_explain (map string_bytes c.in-Ok.words.items) c.first_of.result is explain)
            | inr version ↦ inr (of_version (map string_bytes c.in-Ok.words.items) c.first_of.result is version)
          ]));
      json = λ begins. subst
          (λ v. IsJson (behind_first_word (map string_bytes v))
          (texts (g.D.Opening.stands c.args.outside.now.dump) (g.D.Opening.bytes_at c.args.outside.now.dump))
          (texts (g.P.Opening.stands c.args.outside.now.second) (g.P.Opening.bytes_at c.args.outside.now.second))
          (texts (g.P.Opening.stands c.args.outside.now.third) (g.P.Opening.bytes_at c.args.outside.now.third))
          c.beside.result
          (went (g.O.Sink.taken c.args.outside.now.out) (g.O.Sink.taken c.beside.new.outside.out) (c.beside.new.outside.out ≡ c.args.outside.now.out)
          (g.O.Sink.failures c.beside.new.outside.out ≡ g.O.Sink.failures c.args.outside.now.out + 1))
          (went (g.E.Sink.taken c.args.outside.now.err) (g.E.Sink.taken c.beside.new.outside.err) (c.beside.new.outside.err ≡ c.args.outside.now.err)
          (g.E.Sink.failures c.beside.new.outside.err ≡ g.E.Sink.failures c.args.outside.now.err + 1))
          (HasFailed (g.D.Source.failures c.args.outside.now.dump) (g.D.Source.failures c.beside.new.outside.dump)
          (g.P.Source.failures c.args.outside.now.second) (g.P.Source.failures c.beside.new.outside.second)
          (g.O.Sink.failures c.args.outside.now.out) (g.O.Sink.failures c.beside.new.outside.out)
          ⊎ (g.P.Source.failures c.beside.new.outside.third ≡ g.P.Source.failures c.args.outside.now.third + 1)))
          again (c.beside.ensures.json (of_json (map string_bytes c.in-Ok.words.items) c.first_of.result is begins));
      picture = λ begins. subst
          (λ v. IsPicture (behind_first_word (map string_bytes v))
          (texts (g.D.Opening.stands c.args.outside.now.dump) (g.D.Opening.bytes_at c.args.outside.now.dump))
          (texts (g.P.Opening.stands c.args.outside.now.second) (g.P.Opening.bytes_at c.args.outside.now.second))
          (texts (g.P.Opening.stands c.args.outside.now.third) (g.P.Opening.bytes_at c.args.outside.now.third))
          c.beside.result
          (went (g.O.Sink.taken c.args.outside.now.out) (g.O.Sink.taken c.beside.new.outside.out) (c.beside.new.outside.out ≡ c.args.outside.now.out)
          (g.O.Sink.failures c.beside.new.outside.out ≡ g.O.Sink.failures c.args.outside.now.out + 1))
          (went (g.E.Sink.taken c.args.outside.now.err) (g.E.Sink.taken c.beside.new.outside.err) (c.beside.new.outside.err ≡ c.args.outside.now.err)
          (g.E.Sink.failures c.beside.new.outside.err ≡ g.E.Sink.failures c.args.outside.now.err + 1))
          (HasFailed (g.D.Source.failures c.args.outside.now.dump) (g.D.Source.failures c.beside.new.outside.dump)
          (g.P.Source.failures c.args.outside.now.second) (g.P.Source.failures c.beside.new.outside.second)
          (g.O.Sink.failures c.args.outside.now.out) (g.O.Sink.failures c.beside.new.outside.out)
          ⊎ (g.P.Source.failures c.beside.new.outside.third ≡ g.P.Source.failures c.args.outside.now.third + 1)))
          again (c.beside.ensures.picture (of_picture (map string_bytes c.in-Ok.words.items) c.first_of.result is begins));
      here = λ begins. subst
          (λ v. IsHereCommand (map string_bytes v) (files (g.M.Foldered.shown_in c.args.outside.now.machine) (g.M.Foldered.text_at c.args.outside.now.machine)) c.beside.result
          (went (g.O.Sink.taken c.args.outside.now.out) (g.O.Sink.taken c.beside.new.outside.out) (c.beside.new.outside.out ≡ c.args.outside.now.out)
          ((x : ℕ) × (g.O.Sink.failures c.beside.new.outside.out ≡ x + 1))))
          again (c.beside.ensures.here (of_here (map string_bytes c.in-Ok.words.items) c.first_of.result is begins));
      known = c.beside.ensures.known;
    }

pub returns-in-Texts-clause-text : goal.returns-in-Texts-clause-text
returns-in-Texts-clause-text g c =
    let items : c.as_slice.result.now ≡ c.in-Ok.words.items = cc (c.as_slice.ensures.value) in
    let of : AreOfTexts (map string_bytes c.in-Ok.words.items) = subst (λ v. AreOfTexts (map string_bytes v)) items c.in-Texts.ensures in
    rw c.in-Ok.is (λ begins. absurd (elim begins [ inl explain ↦ of.no_explain explain | inr version ↦ of.no_version version ]))

pub returns-in-Texts-clause-json : goal.returns-in-Texts-clause-json
returns-in-Texts-clause-json g c =
    let items : c.as_slice.result.now ≡ c.in-Ok.words.items = cc (c.as_slice.ensures.value) in
    let of : AreOfTexts (map string_bytes c.in-Ok.words.items) = subst (λ v. AreOfTexts (map string_bytes v)) items c.in-Texts.ensures in
    rw c.in-Ok.is (λ begins. absurd (of.no_json begins))

pub returns-in-Texts-clause-picture : goal.returns-in-Texts-clause-picture
returns-in-Texts-clause-picture g c =
    let items : c.as_slice.result.now ≡ c.in-Ok.words.items = cc (c.as_slice.ensures.value) in
    let of : AreOfTexts (map string_bytes c.in-Ok.words.items) = subst (λ v. AreOfTexts (map string_bytes v)) items c.in-Texts.ensures in
    rw c.in-Ok.is (λ begins. absurd (of.no_picture begins))
