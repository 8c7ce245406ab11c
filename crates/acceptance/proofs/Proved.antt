-- The acceptance table, by computation of the rules.
-- Assumes nothing.
use mathlib.Core.Path.{refl}
use lib.Ieee as X
use Rattle.laws.specs.Lists.{filter, same}
use Rattle.octets.specs.Bytes as O
use Rattle.points.specs.Setup.{fresh_analog}
use Rattle.points.specs.Reading as P
use Rattle.points.specs.Scaling.{limited_of}
use Rattle.events.specs.Placing as E
use Rattle.events.specs.BufferView as K
use Rattle.application.specs.Response as I
use Rattle.read_headers.specs.Parse as A
use Rattle.objects.specs.Runs.{encoded, runs, all_bytes, object_bytes}
use Rattle.event_objects.specs.Events.{event_bytes, carried_events, carried_objects, carried_bytes}
use Rattle.static_objects.specs.Static.{static_bytes, range_bytes, point_objects, point_bytes}
use Rattle.control.specs.Objects as C
use Rattle.control.specs.Status as T
use Rattle.select_latch.specs.Select as L
use Rattle.last_request.specs.Repeat.{is_repeat}
use Rattle.outstation.specs.Setup as U
use Rattle.outstation.specs.OutstationView.{restarted}
use Rattle.outstation.specs.Readings as R
use Rattle.outstation.specs.Requests as Q
use Rattle.outstation.specs.Step as S
use Rattle.acceptance.specs.Acceptance.{Acceptance}

pub acceptance : Acceptance
unfolding restarted U.setup_ok U.binary_classes U.analog_setups U.analog_outputs fresh_analog
    S.step S.reading_step S.taken_with S.raise S.fragment_step S.read_step S.request_step S.confirm_step S.confirmed_step
    R.apply_reading R.bad_time P.read_binary P.read_float P.is_reported P.is_raised limited_of X.of_bits X.to_bits X.mul X.add
    Q.ask Q.is_confirmed A.headers_of A.asks_for
    K.pushed K.carry E.fits E.space_after E.cost_of filter
    static_bytes range_bytes point_objects point_bytes encoded runs all_bytes object_bytes O.le O.value
    event_bytes carried_events carried_objects carried_bytes
    I.response_of is_repeat same
    L.control_effect L.operate_status C.span C.objects T.statuses T.all_zero T.echoed T.chosen
acceptance =
    record { setups = refl; a_to_h = refl; a_to_late = refl; a_to_i = refl; releases = refl; j_alone = refl; frame_sizes = refl }
