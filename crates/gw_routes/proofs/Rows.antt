-- Rows that the definitions compute.
use Rattle.std.proofs.Common.{◌≡◌, true, false, [], ◌∷◌, Some, None, Ok, Err, codes, refl}
use Rattle.std.specs.Fmt.{digits}
use Rattle.std.specs.Str.{chars, is_utf8}
use Rattle.serde_json.specs.Data.{null, boolean, string, number, unsigned, object, member, no_members}
use Rattle.serde_json.proofs.OnLiterals.{serde_json_on_literals}
use Rattle.gw_pattern.specs.declared.form.Seg.TheVariants.{End, Rest}
use Rattle.gw_pattern.specs.declared.fault.PCode.TheVariants.{Empty}
use Rattle.gw_pattern.specs.Path.{cleaned}
use Rattle.gw_pattern.specs.Text.{cut_said, end_said, host_said, literal_of, method_said, path_said, pattern_said, seg_said, segs_said, target_said, braced_said, wildcard_said}
use Rattle.gw_routes.specs.declared.fault.GCode.TheVariants.{NotJson, UnknownName, Missing, WrongKind, OutOfRange, Pattern, BadAddress}
use Rattle.gw_routes.specs.declared.fault.RouteError.TheVariants.{Bad}
use Rattle.gw_routes.specs.declared.route.Target.TheVariants.{Address, Gate}
use Rattle.gw_routes.specs.declared.table.Action.TheVariants.{Backend, Stop}
use Rattle.gw_routes.specs.Addresses.{address_of}
use Rattle.gw_routes.specs.Kinds.{flag_of, flag_said, in_range, json_said, list_said, number_of, number_said, required, text_said}
use Rattle.gw_routes.specs.Names.{is_known, members_said, names_said}
use Rattle.gw_routes.specs.Routes.{backend_said, backend_work, buffer_bounds, items_said, route_pattern, route_said, routes_from, routes_said, timeout_bounds, with_route, work_by, work_said}
use Rattle.gw_routes.specs.Files.{client_ms_bounds, file_said, grace_ms_bounds, idle_ms_bounds, idle_total_bounds, journal_bounds, listen_said, pool_said, top_said}

-- ---- addresses

plain : address_of (codes "127.0.0.1:8080") ≡ Some (record { local = false; ip = 127 ∷ 0 ∷ 0 ∷ 1 ∷ []; port = 8080 })
unfolding address_of digits
plain = refl

local : address_of (codes "localhost:65535") ≡ Some (record { local = true; ip = 127 ∷ 0 ∷ 0 ∷ 1 ∷ []; port = 65535 })
unfolding address_of digits
local = refl

no_port : address_of (codes "localhost") ≡ None
unfolding address_of digits
no_port = refl

port_0 : address_of (codes "127.0.0.1:0") ≡ None
unfolding address_of digits
port_0 = refl

port_65536 : address_of (codes "127.0.0.1:65536") ≡ None
unfolding address_of digits
port_65536 = refl

leading_zero : address_of (codes "127.0.0.01:80") ≡ None
unfolding address_of digits
leading_zero = refl

five_numbers : address_of (codes "1.2.3.4.5:80") ≡ None
unfolding address_of digits
five_numbers = refl

-- ---- members

journal_15 : number_said (codes "journal") journal_bounds None (object (member (codes "journal") (number (unsigned 15)) no_members)) ≡ Err (Bad OutOfRange None None)
unfolding number_said number_of in_range
journal_15 = refl

journal_16 : number_said (codes "journal") journal_bounds None (object (member (codes "journal") (number (unsigned 16)) no_members)) ≡ Ok 16
unfolding number_said number_of in_range
journal_16 = refl

no_journal : number_said (codes "journal") journal_bounds None (object no_members) ≡ Ok 1048576
unfolding number_said number_of
no_journal = refl

journal_null : number_said (codes "journal") journal_bounds None (object (member (codes "journal") null no_members)) ≡ Err (Bad WrongKind None None)
unfolding number_said number_of
journal_null = refl

idle_total_0 : number_said (codes "idle_total") idle_total_bounds None (object (member (codes "idle_total") (number (unsigned 0)) no_members)) ≡ Err (Bad OutOfRange None None)
unfolding number_said number_of in_range
idle_total_0 = refl

idle_ms_0 : number_said (codes "idle_ms") idle_ms_bounds None (object (member (codes "idle_ms") (number (unsigned 0)) no_members)) ≡ Ok 0
unfolding number_said number_of in_range
idle_ms_0 = refl

client_ms_0 : number_said (codes "client_ms") client_ms_bounds None (object (member (codes "client_ms") (number (unsigned 0)) no_members)) ≡ Err (Bad OutOfRange None None)
unfolding number_said number_of in_range
client_ms_0 = refl

no_client_ms : number_said (codes "client_ms") client_ms_bounds None (object no_members) ≡ Ok 60000
unfolding number_said number_of
no_client_ms = refl

grace_ms_0 : number_said (codes "grace_ms") grace_ms_bounds None (object (member (codes "grace_ms") (number (unsigned 0)) no_members)) ≡ Ok 0
unfolding number_said number_of in_range
grace_ms_0 = refl

no_grace_ms : number_said (codes "grace_ms") grace_ms_bounds None (object no_members) ≡ Ok 10000
unfolding number_said number_of
no_grace_ms = refl

no_pool : pool_said (object no_members) ≡ Ok (record { idle_total = 100; idle_per_host = 2; conns_per_host = 0; idle_ms = 90000 })
unfolding pool_said number_said number_of
no_pool = refl

whole_pool : pool_said (object (member (codes "idle_ms") (number (unsigned 86400000)) (member (codes "conns_per_host") (number (unsigned 9))
    (member (codes "idle_per_host") (number (unsigned 7)) (member (codes "idle_total") (number (unsigned 1000)) no_members)))))
    ≡ Ok (record { idle_total = 1000; idle_per_host = 7; conns_per_host = 9; idle_ms = 86400000 })
unfolding pool_said number_said number_of in_range
whole_pool = refl

-- ---- routes

no_object : route_said 3 null ≡ Err (Bad WrongKind (Some 3) None)
unfolding route_said names_said
no_object = refl

unknown : route_said 3 (object (member (codes "listen") null no_members)) ≡ Err (Bad UnknownName (Some 3) None)
unfolding route_said names_said members_said is_known
unknown = refl

stop_with_backend : route_said 3 (object (member (codes "backend") null (member (codes "stop") (boolean true) no_members))) ≡ Err (Bad UnknownName (Some 3) None)
unfolding route_said names_said members_said is_known
stop_with_backend = refl

stop_with_timeout : route_said 3 (object (member (codes "stop") (boolean true) (member (codes "timeout") (number (unsigned 1)) no_members))) ≡ Err (Bad UnknownName (Some 3) None)
unfolding route_said names_said members_said is_known
stop_with_timeout = refl

stop_with_buffer : route_said 3 (object (member (codes "buffer") (number (unsigned 0)) (member (codes "stop") (boolean true) no_members))) ≡ Err (Bad UnknownName (Some 3) None)
unfolding route_said names_said members_said is_known
stop_with_buffer = refl

-- a pattern's fault comes before that of a `stop` of another kind, and this before that of the backend
stop_behind_pattern : route_said 3 (object (member (codes "stop") (number (unsigned 1)) (member (codes "pattern") (string []) no_members))) ≡ Err (Bad Pattern (Some 3) (Some (Empty, 0)))
unfolding route_said names_said members_said is_known text_said required route_pattern pattern_said
stop_behind_pattern = refl

stop_1 : work_said 3 (object (member (codes "backend") null (member (codes "stop") (number (unsigned 1)) no_members))) ≡ Err (Bad WrongKind (Some 3) None)
unfolding work_said flag_said flag_of
stop_1 = refl

stop_null : work_said 3 (object (member (codes "stop") null no_members)) ≡ Err (Bad WrongKind (Some 3) None)
unfolding work_said flag_said flag_of
stop_null = refl

stop_true : work_said 3 (object (member (codes "stop") (boolean true) no_members)) ≡ Ok (record { target = Gate; timeout = 30000; buffer = 65536 })
unfolding work_said flag_said flag_of work_by
stop_true = refl

stop_false : work_said 3 (object (member (codes "stop") (boolean false) no_members)) ≡ Err (Bad Missing (Some 3) None)
unfolding work_said flag_said flag_of work_by backend_work text_said required
stop_false = refl

no_stop : work_said 3 (object no_members) ≡ Err (Bad Missing (Some 3) None)
unfolding work_said flag_said flag_of work_by backend_work text_said required
no_stop = refl

-- the backend's fault comes before that of the timeout, and this before that of the buffer
backend_first : work_said 3 (object (member (codes "timeout") null (member (codes "backend") (string []) no_members))) ≡ Err (Bad BadAddress (Some 3) None)
unfolding work_said flag_said flag_of work_by backend_work text_said required backend_said
backend_first = refl

both_limits : work_said 3 (object (member (codes "buffer") (number (unsigned 0)) (member (codes "timeout") (number (unsigned 3600000)) (member (codes "backend") (string (codes "http://localhost:1/a")) no_members))))
    ≡ Ok (record { target = Address (record { local = true; ip = 127 ∷ 0 ∷ 0 ∷ 1 ∷ []; port = 1 }) (codes "/a"); timeout = 3600000; buffer = 0 })
unfolding work_said flag_said flag_of work_by backend_work text_said required backend_said address_of digits number_said number_of in_range
both_limits = refl

timeout_0 : number_said (codes "timeout") timeout_bounds (Some 3) (object (member (codes "timeout") (number (unsigned 0)) no_members)) ≡ Err (Bad OutOfRange (Some 3) None)
unfolding number_said number_of in_range
timeout_0 = refl

timeout_3600001 : number_said (codes "timeout") timeout_bounds (Some 3) (object (member (codes "timeout") (number (unsigned 3600001)) no_members)) ≡ Err (Bad OutOfRange (Some 3) None)
unfolding number_said number_of in_range
timeout_3600001 = refl

timeout_text : number_said (codes "timeout") timeout_bounds (Some 3) (object (member (codes "timeout") (string (codes "1")) no_members)) ≡ Err (Bad WrongKind (Some 3) None)
unfolding number_said number_of
timeout_text = refl

buffer_1048576 : number_said (codes "buffer") buffer_bounds (Some 3) (object (member (codes "buffer") (number (unsigned 1048576)) no_members)) ≡ Ok 1048576
unfolding number_said number_of in_range
buffer_1048576 = refl

buffer_1048577 : number_said (codes "buffer") buffer_bounds (Some 3) (object (member (codes "buffer") (number (unsigned 1048577)) no_members)) ≡ Err (Bad OutOfRange (Some 3) None)
unfolding number_said number_of in_range
buffer_1048577 = refl

nothing : route_said 3 (object no_members) ≡ Err (Bad Missing (Some 3) None)
unfolding route_said names_said members_said text_said required
nothing = refl

empty_pattern : route_said 0 (object (member (codes "pattern") (string []) no_members)) ≡ Err (Bad Pattern (Some 0) (Some (Empty, 0)))
unfolding route_said names_said members_said is_known text_said required route_pattern pattern_said
empty_pattern = refl

-- ---- files

no_json : file_said (codes "[") ≡ Err (Bad NotJson None None)
unfolding file_said json_said is_utf8 chars serde_json_on_literals
no_json = refl

-- a stop route, which has no host, and a route with a backend
two_routes : file_said (codes "{\"listen\":\"127.0.0.1:8080\",\"workers\":1,\"grace_ms\":0,\"client_ms\":9,\"routes\":[{\"pattern\":\"/{$}\",\"stop\":true},{\"pattern\":\"/\",\"backend\":\"http://127.0.0.1:9000\",\"timeout\":5,\"buffer\":7}]}")
    ≡ Ok (record {
      listen = record { local = false; ip = 127 ∷ 0 ∷ 0 ∷ 1 ∷ []; port = 8080 };
      workers = 1;
      pool = record { idle_total = 100; idle_per_host = 2; conns_per_host = 0; idle_ms = 90000 };
      client_ms = 9;
      grace_ms = 0;
      journal = 1048576;
      routes = record {
        hosts = record { local = false; ip = 127 ∷ 0 ∷ 0 ∷ 1 ∷ []; port = 9000 } ∷ [];
        routes =
            record { text = codes "/{$}"; action = Stop; timeout = 30000; buffer = 65536 }
            ∷ record { text = codes "/"; action = Backend 0 []; timeout = 5; buffer = 7 }
            ∷ [];
        patterns =
            record { method = None; host = []; segs = End ∷ [] }
            ∷ record { method = None; host = []; segs = Rest [] ∷ [] }
            ∷ [];
      };
    })
unfolding file_said json_said is_utf8 chars serde_json_on_literals top_said names_said members_said is_known listen_said text_said required number_said number_of in_range flag_said flag_of pool_said routes_said list_said items_said routes_from route_said route_pattern pattern_said cut_said method_said target_said host_said path_said cleaned segs_said seg_said braced_said wildcard_said end_said literal_of work_said work_by backend_work backend_said with_route address_of digits
two_routes = refl
