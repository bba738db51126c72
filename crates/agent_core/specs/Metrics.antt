-- The counts of an agent, in the text format of Prometheus.
use Rattle.std.specs.Prelude.{ℕ, ◌+◌, ◌==◌, nat_le, min, Bool, cond, List, [], ◌∷◌, ◌++◌, codes, decimal, length, count_by, flat_map, sum, take}
use Rattle.std.specs.Borrow.{Bor}
use Rattle.change_core.specs.declared.changes.Change.{Change}
use Rattle.change_core.specs.declared.statuses.Status.{Status}
use Rattle.change_core.specs.declared.statuses.Status.TheVariants.{Alive, Suspect, Faulty, Leave, Tombstone}
use Rattle.change_core.specs.Status.{rank, status_word}
use Rattle.change_core.specs.Numbers.{most_members}
use Rattle.agent_core.specs.declared.counts.ChangeCounts.{ChangeCounts}
use Rattle.agent_core.specs.declared.counts.KeptCounts.{KeptCounts}
use Rattle.agent_core.specs.declared.counts.LogCounts.{LogCounts}
use Rattle.agent_core.specs.declared.counts.PortCounts.{PortCounts}
use Rattle.agent_core.specs.declared.counts.ProcessCounts.{ProcessCounts}
use Rattle.agent_core.specs.declared.counts.RefusalCounts.{RefusalCounts}
use Rattle.agent_core.specs.declared.counts.TimeCounts.{TimeCounts}
use Rattle.agent_core.specs.declared.counts.WaitingCounts.{WaitingCounts}
use Rattle.agent_core.specs.declared.metrics.Counts.{Counts}

-- the bucket of a time in microseconds
abbrev pub bucket_of : ℕ → ℕ
bucket_of micros =
    cond (nat_le micros 250) 0 (cond (nat_le micros 500) 1
    (cond (nat_le micros 1000) 2 (cond (nat_le micros 5000) 3 (cond (nat_le micros 10000) 4 (cond (nat_le micros 50000) 5 (cond (nat_le micros 100000) 6
    (cond (nat_le micros 500000) 7 (cond (nat_le micros 1000000) 8 (cond (nat_le micros 5000000) 9 (cond (nat_le micros 10000000) 10 11))))))))))

-- whether the member has the status
abbrev pub holds : Status → Change → Bool
holds status c = rank c.status == rank status

-- the number counted in the buckets up to this one, at most 2^64 - 1
abbrev pub within : List ℕ → ℕ → ℕ
within buckets bucket = min (sum (take (bucket + 1) buckets)) 18446744073709551615

-- the lines that say what a metric is, and of which kind
unfoldable pub head : List ℕ → List ℕ → List ℕ → List ℕ
head name kind help = codes "# HELP " ++ (name ++ 32 ∷ (help ++ 10 ∷ (codes "# TYPE " ++ (name ++ 32 ∷ (kind ++ 10 ∷ [])))))

-- a sample of a metric: its name, its labels in braces, or none, and its number
unfoldable pub sample : List ℕ → List ℕ → ℕ → List ℕ
sample name labels number = name ++ (labels ++ 32 ∷ (decimal number ++ 10 ∷ []))

-- a sample of a metric of this name, by its labels and its number
abbrev pub labelled : List ℕ → Bor (List ℕ) × ℕ → List ℕ
labelled name (labels, number) = sample name labels.now number

-- the samples of a metric that says how much there is
abbrev pub gauge : List ℕ → List ℕ → List (List ℕ × ℕ) → List ℕ
gauge name help samples = head name (codes "gauge") help ++ flat_map (λ (labels, number). sample name labels number) samples

-- the samples of a metric that only grows
abbrev pub counter : List ℕ → List ℕ → List (List ℕ × ℕ) → List ℕ
counter name help samples = head name (codes "counter") help ++ flat_map (λ (labels, number). sample name labels number) samples

-- a line with a name and a number of thousandths
unfoldable pub milli_sample : List ℕ → ℕ → List ℕ
milli_sample name millis = name ++ 32 ∷ (decimal millis ++ (codes "e-3" ++ 10 ∷ []))

-- the number of members with a status
unfoldable pub status_sample : List Change → Status → List ℕ
status_sample members status = codes "ringpop_members{status=\"" ++ (status_word status ++ (codes "\"} " ++ (decimal (count_by (holds status) members) ++ 10 ∷ [])))

-- the number of times that are no longer than a bucket's bound, with that bound in seconds
unfoldable pub bucket_sample : List ℕ → List ℕ → ℕ → List ℕ → List ℕ
bucket_sample name buckets bucket bound = name ++ (codes "_bucket{le=\"" ++ (bound ++ (codes "\"} " ++ (decimal (within buckets bucket) ++ 10 ∷ []))))

-- the buckets of a histogram
abbrev pub bucket_samples : List ℕ → List ℕ → List ℕ
bucket_samples name buckets =
    bucket_sample name buckets 0 (codes "0.00025")
    ++ bucket_sample name buckets 1 (codes "0.0005")
    ++ bucket_sample name buckets 2 (codes "0.001")
    ++ bucket_sample name buckets 3 (codes "0.005")
    ++ bucket_sample name buckets 4 (codes "0.01")
    ++ bucket_sample name buckets 5 (codes "0.05")
    ++ bucket_sample name buckets 6 (codes "0.1")
    ++ bucket_sample name buckets 7 (codes "0.5")
    ++ bucket_sample name buckets 8 (codes "1")
    ++ bucket_sample name buckets 9 (codes "5")
    ++ bucket_sample name buckets 10 (codes "10")
    ++ bucket_sample name buckets 11 (codes "+Inf")

-- the sum of times and their number
unfoldable pub sum_samples : List ℕ → TimeCounts → List ℕ
sum_samples name times =
    name ++ (codes "_sum " ++ (decimal times.micros ++ (codes "e-6" ++ 10 ∷ (name ++ (codes "_count " ++ (decimal (within times.buckets 11) ++ 10 ∷ []))))))

-- a histogram of times, their sum and their number
abbrev pub time_samples : List ℕ → List ℕ → TimeCounts → List ℕ
time_samples name help times = head name (codes "histogram") help ++ bucket_samples name times.buckets ++ sum_samples name times

-- the version
abbrev pub build_samples : List ℕ
build_samples =
    gauge (codes "ringpop_build_info") (codes "The version of the program, as a label.") ((codes "{version=\"1.0.0-dev\"}", 1) ∷ [])

-- the number of members with each status
abbrev pub status_samples : List Change → List ℕ
status_samples members =
    head (codes "ringpop_members") (codes "gauge") (codes "Members that the node holds, by status.")
    ++ status_sample members Alive
    ++ status_sample members Suspect
    ++ status_sample members Faulty
    ++ status_sample members Leave
    ++ status_sample members Tombstone

-- the number of addresses used and the most that there can be, the node's own incarnation, and the digest of its members
abbrev pub node_samples : Counts → ℕ → List ℕ
node_samples counts addresses =
    gauge (codes "ringpop_addresses_used") (codes "Addresses that the node holds, those of members that left or died included.") ((codes "", addresses) ∷ [])
    ++ gauge (codes "ringpop_addresses_max") (codes "Addresses that a node can hold.") ((codes "", most_members) ∷ [])
    ++ gauge (codes "ringpop_incarnation") (codes "The incarnation of the node, in its own entry at the last change of its members.") ((codes "", counts.incarnation) ∷ [])
    ++ gauge (codes "ringpop_digest") (codes "The first six bytes of the digest of the members at their last change: nodes that agree have one number.") ((codes "", counts.digest) ∷ [])

-- the numbers of requests: by outcome, handled here, sent to another node, and passed on
abbrev pub request_samples : Counts → List ℕ
request_samples counts =
    counter (codes "ringpop_requests_total") (codes "Requests of keys that this agent answered over HTTP, by outcome.")
    ((codes "{outcome=\"answered\"}", counts.answered)
    ∷ (codes "{outcome=\"refused\"}", counts.refused)
    ∷ (codes "{outcome=\"failed\"}", counts.failed) ∷ [])
    ++ counter (codes "ringpop_handled_total") (codes "Requests of keys that the service of this agent was to handle, those of other nodes included.") ((codes "", counts.handled) ∷ [])
    ++ counter (codes "ringpop_forwards_total") (codes "Sends of a request of a key to another node, repeated ones and those passed on included.") ((codes "", counts.forwards) ∷ [])
    ++ counter (codes "ringpop_passed_on_total") (codes "Requests of other nodes that were passed on to the owner.") ((codes "", counts.passed_on) ∷ [])

-- the numbers of answers to requests of keys, by who made them and by status
abbrev pub answer_samples : Counts → List ℕ
answer_samples counts =
    counter (codes "ringpop_answers_total") (codes "Answers to requests of keys over HTTP, by who made them and by status.")
    ((codes "{from=\"service\",status=\"2xx\"}", counts.by_services.successes)
    ∷ (codes "{from=\"service\",status=\"3xx\"}", counts.by_services.redirections)
    ∷ (codes "{from=\"service\",status=\"4xx\"}", counts.by_services.client_errors)
    ∷ (codes "{from=\"service\",status=\"5xx\"}", counts.by_services.server_errors)
    ∷ (codes "{from=\"agent\",status=\"2xx\"}", counts.by_agents.successes)
    ∷ (codes "{from=\"agent\",status=\"3xx\"}", counts.by_agents.redirections)
    ∷ (codes "{from=\"agent\",status=\"4xx\"}", counts.by_agents.client_errors)
    ∷ (codes "{from=\"agent\",status=\"5xx\"}", counts.by_agents.server_errors) ∷ [])

-- the number of rounds by outcome
abbrev pub round_samples : Counts → List ℕ
round_samples counts =
    counter (codes "ringpop_rounds_total") (codes "Rounds of gossip, by outcome.")
    ((codes "{outcome=\"idle\"}", counts.idle)
    ∷ (codes "{outcome=\"reached\"}", counts.reached)
    ∷ (codes "{outcome=\"suspected\"}", counts.suspected)
    ∷ (codes "{outcome=\"inconclusive\"}", counts.inconclusive)
    ∷ (codes "{outcome=\"error\"}", counts.broken) ∷ [])

-- the numbers of changes of members by the status that they got, and of refutations
abbrev pub change_samples : ChangeCounts → List ℕ
change_samples changes =
    counter (codes "ringpop_member_changes_total") (codes "Changes of other members that this node learnt, by the status that they got.")
    ((codes "{status=\"alive\"}", changes.alive)
    ∷ (codes "{status=\"suspect\"}", changes.suspect)
    ∷ (codes "{status=\"faulty\"}", changes.faulty)
    ∷ (codes "{status=\"leave\"}", changes.leave)
    ∷ (codes "{status=\"tombstone\"}", changes.tombstone) ∷ [])
    ++ counter (codes "ringpop_refutations_total") (codes "Rounds after which this node had refuted what others held of it.") ((codes "", changes.refuted) ∷ [])

-- the numbers of failures: of the application, of links, and of allocations
abbrev pub other_samples : Counts → List ℕ
other_samples counts =
    counter (codes "ringpop_application_failures_total") (codes "Requests that the service did not answer, or by no answer that can be passed on.") ((codes "", counts.application_failures) ∷ [])
    ++ counter (codes "ringpop_link_failures_total") (codes "Messages to other nodes whose sending failed, or that got no answer.") ((codes "", counts.link_failures) ∷ [])
    ++ counter (codes "ringpop_allocation_failures_total") (codes "Requests and rounds that ran out of memory.") ((codes "", counts.allocation_failures) ∷ [])

-- the requests that wait: how many of this node's keys and of others', how many may, the share of each other owner, and how many found no place
abbrev pub waiting_samples : WaitingCounts → List ℕ
waiting_samples waiting =
    gauge (codes "ringpop_waiting_used") (codes "Requests of keys that wait for their owner.")
    ((codes "{owner=\"self\"}", waiting.own)
    ∷ (codes "{owner=\"others\"}", waiting.others) ∷ [])
    ++ gauge (codes "ringpop_waiting_max") (codes "Requests of keys that may wait for their owner.")
    ((codes "{owner=\"self\"}", 96)
    ∷ (codes "{owner=\"others\"}", 128) ∷ [])
    ++ gauge (codes "ringpop_waiting_share") (codes "Requests that may wait for one other owner while many wait for others.") ((codes "", 32) ∷ [])
    ++ counter (codes "ringpop_waiting_refused_total") (codes "Requests of keys that found no place among those that wait.") ((codes "", waiting.refused) ∷ [])

-- the connections of nodes that are kept: how many wait at the end that asks, and at the end that answers; how many may; how often one was used
-- again, and how many were closed
abbrev pub kept_samples : KeptCounts → List ℕ
kept_samples kept =
    gauge (codes "ringpop_kept_connections_used") (codes "Connections between nodes that wait for the next request, at either end.")
    ((codes "{end=\"asking\"}", kept.resting)
    ∷ (codes "{end=\"answering\"}", kept.hands) ∷ [])
    ++ gauge (codes "ringpop_kept_connections_max") (codes "Connections between nodes that may wait so, at either end.")
    ((codes "{end=\"asking\"}", kept.max_resting)
    ∷ (codes "{end=\"answering\"}", kept.max_hands) ∷ [])
    ++ counter (codes "ringpop_kept_connections_reused_total") (codes "Requests to other nodes over connections that were kept.") ((codes "", kept.reused) ∷ [])
    ++ counter (codes "ringpop_kept_connections_closed_total") (codes "Connections to other nodes that were kept and then closed.") ((codes "", kept.closed) ∷ [])

-- the connections of clients over HTTP, and those at the node's port: how many are open, how many may be, how many were closed for others, and how
-- often none was accepted
abbrev pub connection_samples : (http node : PortCounts) → List ℕ
connection_samples http node =
    gauge (codes "ringpop_connections_used") (codes "Connections that are open.")
    ((codes "{port=\"http\"}", http.used)
    ∷ (codes "{port=\"node\"}", node.used) ∷ [])
    ++ gauge (codes "ringpop_connections_max") (codes "Connections that may be open.")
    ((codes "{port=\"http\"}", http.max)
    ∷ (codes "{port=\"node\"}", node.max) ∷ [])
    ++ counter (codes "ringpop_connections_evicted_total") (codes "Connections that were closed for others.")
    ((codes "{port=\"http\"}", http.evicted)
    ∷ (codes "{port=\"node\"}", node.evicted) ∷ [])
    ++ counter (codes "ringpop_accept_failures_total") (codes "How often the system let no connection be accepted.")
    ((codes "{port=\"http\"}", http.failures)
    ∷ (codes "{port=\"node\"}", node.failures) ∷ [])

-- the workers that serve a connection, the questions about the ring that wait, and the most that there may be
abbrev pub worker_samples : Counts → List ℕ
worker_samples counts =
    gauge (codes "ringpop_workers_used") (codes "Threads that serve an HTTP connection.") ((codes "", counts.workers_used) ∷ [])
    ++ gauge (codes "ringpop_workers_max") (codes "Threads for HTTP connections.") ((codes "", counts.workers_max) ∷ [])
    ++ gauge (codes "ringpop_questions_used") (codes "Questions about the ring that wait.") ((codes "", counts.questions_used) ∷ [])
    ++ gauge (codes "ringpop_questions_max") (codes "Questions about the ring that may wait.") ((codes "", counts.questions_max) ∷ [])

-- whether the service took a connection when it was looked at last, the notices of the ring that it took and that it did not take, and whether one is
-- still to be taken
abbrev pub service_samples : Counts → List ℕ
service_samples counts =
    gauge (codes "ringpop_service_up") (codes "Whether the service took a connection when the agent last looked.") ((codes "", counts.service_up) ∷ [])
    ++ counter (codes "ringpop_notices_total") (codes "Notices of the ring to the service, by outcome.")
    ((codes "{outcome=\"taken\"}", counts.notices_taken)
    ∷ (codes "{outcome=\"failed\"}", counts.notices_failed) ∷ [])
    ++ gauge (codes "ringpop_notices_untold") (codes "Whether a ring is still to be told to the service.") ((codes "", counts.notices_untold) ∷ [])

-- joins by outcome, messages that other nodes refused, and lines that were refused here by reason
abbrev pub refusal_samples : RefusalCounts → List ℕ
refusal_samples refusals =
    counter (codes "ringpop_joins_total") (codes "Joins that this node asked for, by outcome.")
    ((codes "{outcome=\"joined\"}", refusals.joined)
    ∷ (codes "{outcome=\"refused\"}", refusals.join_refused)
    ∷ (codes "{outcome=\"failed\"}", refusals.join_failed) ∷ [])
    ++ counter (codes "ringpop_messages_refused_total") (codes "Messages of this node that another one refused.") ((codes "", refusals.messages) ∷ [])
    ++ counter (codes "ringpop_lines_refused_total") (codes "Lines of other nodes that were refused, by reason.")
    ((codes "{reason=\"malformed\"}", refusals.malformed)
    ∷ (codes "{reason=\"memory\"}", refusals.memory)
    ∷ (codes "{reason=\"cluster\"}", refusals.cluster) ∷ [])

-- the log lines that wait, the most that may, and those that were dropped
abbrev pub log_samples : LogCounts → List ℕ
log_samples log =
    gauge (codes "ringpop_log_lines_used") (codes "Lines of the log that wait to be written.") ((codes "", log.used) ∷ [])
    ++ gauge (codes "ringpop_log_lines_max") (codes "Lines of the log that may wait.") ((codes "", log.max) ∷ [])
    ++ counter (codes "ringpop_log_lines_dropped_total") (codes "Lines of the log that were dropped.") ((codes "", log.dropped) ∷ [])

-- what the process uses of the machine, and when it started
abbrev pub process_samples : ProcessCounts → List ℕ
process_samples process =
    gauge (codes "process_resident_memory_bytes") (codes "Memory that the process holds.") ((codes "", process.memory) ∷ [])
    ++ gauge (codes "process_open_fds") (codes "Descriptors that are open.") ((codes "", process.descriptors) ∷ [])
    ++ gauge (codes "process_max_fds") (codes "Descriptors that may be open.") ((codes "", process.max_descriptors) ∷ [])
    ++ gauge (codes "process_start_time_seconds") (codes "When the process started, in seconds since 1970.") ((codes "", process.started) ∷ [])
    ++ head (codes "process_cpu_seconds_total") (codes "counter") (codes "Processor time that the process used.")
    ++ milli_sample (codes "process_cpu_seconds_total") process.cpu_millis

-- the times of requests, of the application, of rounds and of pings
abbrev pub histogram_samples : Counts → List ℕ
histogram_samples counts =
    time_samples (codes "ringpop_request_seconds") (codes "Time of requests of keys over HTTP, those to other nodes included.") counts.requests
    ++ time_samples (codes "ringpop_application_seconds") (codes "Time in which the service of this agent answered, or did not.") counts.application
    ++ time_samples (codes "ringpop_round_seconds") (codes "Time of rounds of gossip, without the pauses between them.") counts.rounds
    ++ time_samples (codes "ringpop_ping_seconds") (codes "Time from a ping of this node to its answer.") counts.pings

-- what a node is, and what it knows of others
abbrev pub node_texts : Counts → List Change → List ℕ
node_texts counts members =
    build_samples ++ status_samples members ++ node_samples counts (length members) ++ process_samples counts.process

-- what was asked and done
abbrev pub work_texts : Counts → List ℕ
work_texts counts =
    request_samples counts ++ answer_samples counts ++ histogram_samples counts ++ round_samples counts ++ change_samples counts.changes
    ++ other_samples counts

-- what is held, and of how much
abbrev pub limit_texts : Counts → List ℕ
limit_texts counts =
    waiting_samples counts.waiting ++ kept_samples counts.kept ++ connection_samples counts.http counts.node ++ worker_samples counts
    ++ log_samples counts.log

-- what goes between the node, its service and other nodes
abbrev pub link_texts : Counts → List ℕ
link_texts counts = service_samples counts ++ refusal_samples counts.refusals

-- the whole text
abbrev pub metrics_text : Counts → List Change → List ℕ
metrics_text counts members = node_texts counts members ++ work_texts counts ++ limit_texts counts ++ link_texts counts
