use Rattle.std.proofs.Common.{inl}
use Rattle.std.proofs.lemmas.Result.{err_from_is_err_and}
use Rattle.wire_json.proofs.message_lines.content_in.Goals as goal

pub returns-in_err-news_in-in-Join : goal.returns-in_err-news_in-in-Join
returns-in_err-news_in-in-Join c =
    let p = err_from_is_err_and c.from_residual.result c.from_residual.ensures.1 in
    rw (p.1, p.2, c.in-Join.is) c.in_err-news_in-in-Join.ensures

pub returns-in_err-news_in-in-Joined : goal.returns-in_err-news_in-in-Joined
returns-in_err-news_in-in-Joined c =
    let p = err_from_is_err_and c.from_residual-in_err-news_in-in-Joined.result c.from_residual-in_err-news_in-in-Joined.ensures.1 in
    rw (p.1, p.2, c.in-Joined.is) c.in_err-news_in-in-Joined.ensures

pub returns-in_err-news_in-in-Ping : goal.returns-in_err-news_in-in-Ping
returns-in_err-news_in-in-Ping c =
    let p = err_from_is_err_and c.from_residual-in_err-news_in-in-Ping.result c.from_residual-in_err-news_in-in-Ping.ensures.1 in
    rw (p.1, p.2, c.in-Ping.is) c.in_err-news_in-in-Ping.ensures

pub returns-in_err-news_in-in-Ack : goal.returns-in_err-news_in-in-Ack
returns-in_err-news_in-in-Ack c =
    let p = err_from_is_err_and c.from_residual-in_err-news_in-in-Ack.result c.from_residual-in_err-news_in-in-Ack.ensures.1 in
    rw (p.1, p.2, c.in-Ack.is) c.in_err-news_in-in-Ack.ensures

pub returns-in_err-body_in-in-Reply : goal.returns-in_err-body_in-in-Reply
returns-in_err-body_in-in-Reply c =
    let p = err_from_is_err_and c.from_residual-in_err-body_in-in-Reply.result c.from_residual-in_err-body_in-in-Reply.ensures.1 in
    rw (p.1, p.2, c.in-Reply.is) (λ h. inl (c.in_err-body_in-in-Reply.ensures h))

pub returns-in_err-reason_in-in-Refused : goal.returns-in_err-reason_in-in-Refused
returns-in_err-reason_in-in-Refused c =
    let p = err_from_is_err_and c.from_residual-in_err-reason_in-in-Refused.result c.from_residual-in_err-reason_in-in-Refused.ensures.1 in
    rw (p.1, p.2, c.in-Refused.is) (λ _. inl c.in_err-reason_in-in-Refused.ensures)

pub returns-in-PingReq : goal.returns-in-PingReq
returns-in-PingReq c = rw c.in-PingReq.is c.ping_req_in.ensures

pub returns-in-PingReqAck : goal.returns-in-PingReqAck
returns-in-PingReqAck c = rw c.in-PingReqAck.is c.ping_req_ack_in.ensures

pub returns-in-Forward : goal.returns-in-Forward
returns-in-Forward c = rw c.in-Forward.is c.forward_in.ensures
