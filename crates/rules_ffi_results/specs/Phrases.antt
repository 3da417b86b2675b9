-- The phrases of status lines: those of RFC 9110, 15, and of the registry beside it that caches and gateways see.
use Rattle.std.specs.Prelude.{ℕ, ◌==◌, nat_lt, if◌then◌else◌, List, codes}

-- from 100 to 199
abbrev pub interim_phrase : ℕ → List ℕ
interim_phrase code =
    if code == 100 then codes "Continue"
    else (if code == 101 then codes "Switching Protocols"
    else (if code == 103 then codes "Early Hints"
    else codes "Status"))

-- from 200 to 299
abbrev pub success_phrase : ℕ → List ℕ
success_phrase code =
    if code == 200 then codes "OK"
    else (if code == 201 then codes "Created"
    else (if code == 202 then codes "Accepted"
    else (if code == 203 then codes "Non-Authoritative Information"
    else (if code == 204 then codes "No Content"
    else (if code == 205 then codes "Reset Content"
    else (if code == 206 then codes "Partial Content"
    else (if code == 207 then codes "Multi-Status"
    else (if code == 208 then codes "Already Reported"
    else (if code == 226 then codes "IM Used"
    else codes "Status")))))))))

-- from 300 to 399
abbrev pub redirection_phrase : ℕ → List ℕ
redirection_phrase code =
    if code == 300 then codes "Multiple Choices"
    else (if code == 301 then codes "Moved Permanently"
    else (if code == 302 then codes "Found"
    else (if code == 303 then codes "See Other"
    else (if code == 304 then codes "Not Modified"
    else (if code == 305 then codes "Use Proxy"
    else (if code == 307 then codes "Temporary Redirect"
    else (if code == 308 then codes "Permanent Redirect"
    else codes "Status")))))))

-- from 400 to 417
abbrev pub client_error_phrase : ℕ → List ℕ
client_error_phrase code =
    if code == 400 then codes "Bad Request"
    else (if code == 401 then codes "Unauthorized"
    else (if code == 402 then codes "Payment Required"
    else (if code == 403 then codes "Forbidden"
    else (if code == 404 then codes "Not Found"
    else (if code == 405 then codes "Method Not Allowed"
    else (if code == 406 then codes "Not Acceptable"
    else (if code == 407 then codes "Proxy Authentication Required"
    else (if code == 408 then codes "Request Timeout"
    else (if code == 409 then codes "Conflict"
    else (if code == 410 then codes "Gone"
    else (if code == 411 then codes "Length Required"
    else (if code == 412 then codes "Precondition Failed"
    else (if code == 413 then codes "Content Too Large"
    else (if code == 414 then codes "URI Too Long"
    else (if code == 415 then codes "Unsupported Media Type"
    else (if code == 416 then codes "Range Not Satisfiable"
    else (if code == 417 then codes "Expectation Failed"
    else codes "Status")))))))))))))))))

-- from 418 to 499
abbrev pub more_client_error_phrase : ℕ → List ℕ
more_client_error_phrase code =
    if code == 421 then codes "Misdirected Request"
    else (if code == 422 then codes "Unprocessable Content"
    else (if code == 423 then codes "Locked"
    else (if code == 424 then codes "Failed Dependency"
    else (if code == 425 then codes "Too Early"
    else (if code == 426 then codes "Upgrade Required"
    else (if code == 428 then codes "Precondition Required"
    else (if code == 429 then codes "Too Many Requests"
    else (if code == 431 then codes "Request Header Fields Too Large"
    else (if code == 451 then codes "Unavailable For Legal Reasons"
    else codes "Status")))))))))

-- from 500 on
abbrev pub server_error_phrase : ℕ → List ℕ
server_error_phrase code =
    if code == 500 then codes "Internal Server Error"
    else (if code == 501 then codes "Not Implemented"
    else (if code == 502 then codes "Bad Gateway"
    else (if code == 503 then codes "Service Unavailable"
    else (if code == 504 then codes "Gateway Timeout"
    else (if code == 505 then codes "HTTP Version Not Supported"
    else (if code == 506 then codes "Variant Also Negotiates"
    else (if code == 507 then codes "Insufficient Storage"
    else (if code == 508 then codes "Loop Detected"
    else (if code == 511 then codes "Network Authentication Required"
    else codes "Status")))))))))

-- of a status; another one is told as such
unfoldable pub phrase : ℕ → List ℕ
phrase code =
    if nat_lt code 200 then interim_phrase code
    else (if nat_lt code 300 then success_phrase code
    else (if nat_lt code 400 then redirection_phrase code
    else (if nat_lt code 418 then client_error_phrase code
    else (if nat_lt code 500 then more_client_error_phrase code
    else server_error_phrase code))))
