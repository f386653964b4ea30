use Rattle.std.proofs.Common.{refl}
use Rattle.std.specs.List.{slice_index_or}
use Rattle.std.proofs.lemmas.Option.{slice_get-get_or}
use Rattle.traces.specs.Seen.{seen_events}
use Rattle.session.proofs.Extending.{in_err, grown_by, kept_by, size_fits}
use Rattle.session.proofs.accepted.extend.Goals as goal

pub overflow_add-under : goal.overflow_add-under
overflow_add-under c =
    record { fits = size_fits c.args.accepted.now c.args.k _ c.args.size (slice_get-get_or _ _ c.index-accepted-k.result c.requires.inside) c.requires.place }

pub returns-in_err-append-clause-stays : goal.returns-in_err-append-clause-stays
returns-in_err-append-clause-stays c =
    in_err c.from_residual.result _ (kept_by c.args.accepted.now c.args.k (slice_index_or c.args.accepted.now c.args.k c.index-accepted-k.result) _ (slice_get-get_or _ _ c.index-accepted-k.result c.requires.inside)
    c.in_err-append.ensures.stays refl refl)

pub returns-clause-grown : goal.returns-clause-grown
returns-clause-grown c =
    grown_by c.args.accepted.now c.args.k (slice_index_or c.args.accepted.now c.args.k c.index-accepted-k.result) _ (seen_events c.args.events.items) c.args.size c.args.stream
    (slice_get-get_or _ _ c.index-accepted-k.result c.requires.inside) c.in_ok-append.ensures.grown refl refl
