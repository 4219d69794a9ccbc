pub mod TcpView
