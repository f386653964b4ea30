use Rattle.std.proofs.Common.{◌≡◌, ◌∙◌, ◌<◌, ◌^◌, ℕ, List, Option, [], length, ap, sym, refl, subst, arith}
use Rattle.std.specs.Prelude.{All}
use Rattle.intervals.specs.declared.ends.Ends.{Ends}
use Rattle.intervals.specs.Ends.{FitsEnds}
use Rattle.std.proofs.lemmas.List.Elements.{All-nil}
use Rattle.std.proofs.lemmas.Result.{IfOk-weaker}
use Rattle.mergecap.specs.MergedCapture.{Timed}
use Rattle.mergecap.specs.Packets.{all_timed}
use Rattle.merged_blocks.specs.MergedFile.{HaveEnds}
use Rattle.traces.specs.declared.event_id.EventId.{EventId}
use Rattle.session.specs.Since.{AreCountedFrom}
use Rattle.session.specs.Stands.{seen_held}
use Rattle.merge_script.specs.Dated.{IsOriginFor}
use Rattle.merge_script.proofs.Counted.{both_ok, counted_from, counted_none, no_packets}
use Rattle.merge_script.proofs.dated.since_origin.Goals as goal

pub since_event-requires-clause-event : goal.since_event-requires-clause-event
since_event-requires-clause-event g c = let origin = rw c.in-Some.is at c.requires.origin.1 in (origin.0, origin.2)

pub returns-in-Some-clause-counted : goal.returns-in-Some-clause-counted
returns-in-Some-clause-counted g c =
    let d = c.args.session.now.declaration in
    let seen = seen_held c.args.session.now.under in
    let ts = all_timed c.args.kept.now in
    let event = c.in-Some.event in
    both_ok c.since_event.result (λ since. since.event ≡ event) _ (λ since. (name : Option (List ℕ)) → IsOriginFor d seen name c.args.origin → AreCountedFrom d seen name ts since.event since.ends.items)
    (λ since same told. (λ name is. counted_from d seen ts event since.event since.ends.items same told name (rw c.in-Some.is at is))) c.since_event.ensures.event c.since_event.ensures.are

pub returns-in-Some-clause-ends : goal.returns-in-Some-clause-ends
returns-in-Some-clause-ends g c =
    let ts = all_timed c.args.kept.now in
    let event = c.in-Some.event in
    both_ok c.since_event.result (λ since. since.event ≡ event) _ (λ since. HaveEnds since.event ts since.ends.items)
    (λ since same ends. subst (λ (e : EventId). HaveEnds e ts since.ends.items) (sym same) ends) c.since_event.ensures.event c.since_event.ensures.ends

pub returns-in-None-clause-counted : goal.returns-in-None-clause-counted
returns-in-None-clause-counted g c =
    let d = c.args.session.now.declaration in
    let seen = seen_held c.args.session.now.under in
    λ name is. counted_none d seen (all_timed c.args.kept.now) _ _ c.no_ends.ensures c.requires.there name (rw c.in-None.is at is)

pub returns-in-None-clause-ends : goal.returns-in-None-clause-ends
returns-in-None-clause-ends g c =
    let origin = rw c.in-None.is at c.requires.origin.1 in
    let none : all_timed c.args.kept.now ≡ [] = no_packets (seen_held c.args.session.now.under) (all_timed c.args.kept.now) origin.0 c.requires.there in
    record {
      each = ap length c.no_ends.ensures ∙ sym (ap length none);
      small = subst (λ (all : List Ends). All FitsEnds all) (sym c.no_ends.ensures) (All-nil FitsEnds);
      number = omega arith;
    }
