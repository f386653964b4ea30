-- What is said of a packet in a comment: its event, the stamp of its own clock, and how long after one event it was.
use Rattle.std.specs.Prelude.{ℕ, List, [], ◌∷◌, slice_get, codes}
use Rattle.atto.specs.Decimal.{decimal_of}
use Rattle.line_format.specs.Words.{words}
use Rattle.intervals.specs.declared.ends.Ends.{Ends}
use Rattle.queries.specs.Words.{end_word}
use Rattle.decl.specs.Declaration.{Declaration}
use Rattle.traces.specs.declared.event_id.EventId.{EventId}
use Rattle.traces.specs.Traces.{name_of, numbered_name}
use Rattle.mergecap.specs.MergedCapture.{Timed}

-- an event by its name, its stamp in ns, and the least and the greatest real time from another event to it, as ns texts
abbrev pub remark_words : List ℕ → ℕ → List ℕ → Ends → List ℕ
remark_words event stamp since ends =
    words (codes "tracesync" ∷ event ∷ codes "stamp" ∷ decimal_of stamp ∷ codes "since" ∷ since ∷ end_word (codes "-inf") ends.least ∷ codes "to" ∷ end_word (codes "+inf") ends.greatest ∷ codes "ns" ∷ [])

-- the event of a packet, by the place of its label and its number there, its stamp, and the ends since one event
abbrev pub remark_of : Declaration → EventId → Timed → Ends → List ℕ
remark_of d since t ends = remark_words (numbered_name (slice_get d.labels t.key.place) t.key.n) t.packet.stamp (name_of d since) ends
